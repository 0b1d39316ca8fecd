-- One reply more: what the lane then knows, and that each reply fits.
use Rattle.std.proofs.Common.{◌≡◌, ◌<◌, inl, inr, ℕ, zero, suc, List, [], ◌∷◌, ◌++◌, length, take, Some, refl, sym, ◌∙◌, ap, subst, arith}
use Rattle.std.specs.Prelude.{slice_get}
use Rattle.std.proofs.lemmas.Bool.{cases_lt}
use Rattle.std.proofs.lemmas.List.{length_push, take_all, take-append-le}
use Rattle.std.proofs.lemmas.List.Sums.{fold-append}
use Rattle.std.proofs.lemmas.Option.{slice_get_within}
use Rattle.sv_model.specs.Books.{Books}
use Rattle.sv_script.specs.Answered.{Answered}
use Rattle.sv_replies.specs.Known.{Known, at_first, known_after, learn}
use Rattle.sv_replies.specs.Settings.{Setting}
use Rattle.sv_replies.specs.ReplyFits.{RepliesFit, ReplyFits}

-- what is known goes on by one reply
pub known-push : (all : List Answered) (a : Answered)
    → known_after (all ++ a ∷ []) ≡ learn (known_after all) a.command a.reply
known-push all a = fold-append (λ (k : Known) (x : Answered). learn k x.command x.reply) at_first all (a ∷ [])

-- what holds of each place after the ones before it
abbrev pub EachAfter : (List Answered → Answered → Type 0) → List Answered → Type 0
EachAfter P all = (n : ℕ) (a : Answered) → slice_get all n ≡ Some a → P (take n all) a

some : (x y : Answered) → Some x ≡ Some y → x ≡ y
some x y e = cc

get-last : (all : List Answered) (x : Answered) → slice_get (all ++ x ∷ []) (length all) ≡ Some x
get-last [] x = refl
get-last (a ∷ all) x = get-last all x

get-before : (all : List Answered) (x : Answered) (k : ℕ) → k < length all
    → slice_get (all ++ x ∷ []) k ≡ slice_get all k
get-before [] x k lt = absurd (omega arith)
get-before (a ∷ all) x zero lt = refl
get-before (a ∷ all) x (suc k) lt = get-before all x k (omega arith)

pub each-push : (P : List Answered → Answered → Type 0) (all : List Answered) (x : Answered) → EachAfter P all
    → P all x → EachAfter P (all ++ x ∷ [])
each-push P all x each here k a at = elim (cases_lt k (length all)) [
  | inl lt ↦ subst (λ z. P z a) (sym (take-append-le k all (x ∷ []) (omega arith))) (each k a (sym (get-before all x k lt) ∙ at))
  | inr ge ↦
      let last : k ≡ length all = omega (arith, slice_get_within (all ++ x ∷ []) k a at, length_push all x) in
      let same : a ≡ x = some a x (sym at ∙ ap (slice_get (all ++ x ∷ [])) last ∙ get-last all x) in
      let before : take k (all ++ x ∷ []) ≡ all = ap (λ z. take z (all ++ x ∷ [])) last ∙ take-append-le (length all) all (x ∷ []) (omega arith) ∙ take_all (length all) all (omega arith) in
      subst (λ z. P z a) (sym before) (subst (λ z. P all z) (sym same) here)
]

pub replies-push : (s : Setting) (books : Books) (all : List Answered) (a : Answered) → RepliesFit s books all
    → ReplyFits s books (known_after all) a.command a.reply → RepliesFit s books (all ++ a ∷ [])
replies-push s books all a fits one =
    each-push (λ before x. ReplyFits s books (known_after before) x.command x.reply) all a fits one
