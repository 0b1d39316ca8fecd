-- Puts and deletes as commands that ask for a write.
use Rattle.std.proofs.Common.{◌≡◌, ⊎_elim, Bool, true, false, cond, ℕ, List, [], ◌∷◌, length, Option, Some, None, refl, sym, ◌∙◌, ap, subst}
use Rattle.std.specs.Prelude.{nat_le, option_map}
use Rattle.sv_model.specs.declared.refusals.Refusal.{Refusal}
use Rattle.sv_model.specs.declared.refusals.Refusal.TheVariants as refusal
use Rattle.sv_model.specs.declared.values.TheConstants.{MAX_VALUE}
use Rattle.sv_model.specs.declared.writes.Op.TheVariants as op
use Rattle.sv_model.specs.Books.{Books}
use Rattle.sv_model.specs.Refusals.{IsDue, first_due, key_refusal, value_refusal}
use Rattle.sv_model.proofs.AfterLaws.{after-itself}
use Rattle.sv_model.proofs.RefusalLaws.{none_due}
use Rattle.sv_script.specs.declared.commands.Command.TheVariants as command
use Rattle.sv_script.specs.declared.replies.Reply.TheVariants as reply
use Rattle.sv_replies.specs.Answers.{Answers, KnowsAll}
use Rattle.sv_replies.specs.Due.{Cause, dropped_cause, first_of, handle_cause, key_cause, of_refusal, refuses, value_cause}
use Rattle.sv_replies.specs.Known.{Known}
use Rattle.sv_replies.specs.PutLaw.{WriteMet}
use Rattle.sv_replies.specs.ReplyFits.{ReplyFits}
use Rattle.sv_replies.proofs.AnswersLaws.{delete-answers, keeps-same, put-answers, refused-answers}
use Rattle.sv_replies.proofs.DueLemmas.{first-next, key-free, value-free}
use Rattle.sv_replies.proofs.MetLaws.{fits_due, through}
use Rattle.sv_answers.specs.Answered.{alone}
use Rattle.sv_answers.proofs.ReadAnswers.{no-want}
use Rattle.sv_answers.proofs.RefusalCases.{due-or, first-or, last-due}
use Rattle.sv_answers.proofs.WriteAnswers.{IsWriteOf}

-- the key and the value are some
pub row-free : (n m : ℕ) → first_due (key_refusal n ∷ value_refusal m ∷ []) ≡ None
    → (key_refusal n ≡ None) × (value_refusal m ≡ None)
row-free n m h =
    let t = none_due (key_refusal n) (value_refusal m ∷ []) h in
    (t.0, (none_due (value_refusal m) [] t.1).0)

-- ---- what is no row

due-row : (x y : Option Refusal) (rest : List (Option Cause)) (e : Refusal) → first_due (x ∷ y ∷ []) ≡ Some e
    → first_of (of_refusal x ∷ of_refusal y ∷ rest) ≡ Some (refuses e)
due-row (Some x) y rest e h = ap (option_map refuses) h
due-row None (Some y) rest e h = ap (option_map refuses) h
due-row None None rest e h = let q : None ≡ Some e = h in absurd (cc)

no-want-value : (n : ℕ) (e : Refusal) → value_refusal n ≡ Some e → e ≡ refusal.OutOfMemory → ⊥
no-want-value n e h = by (nat_le n MAX_VALUE) h
  where
    by : (d : Bool) → cond d None (Some (refusal.ValueLength n)) ≡ Some e → e ≡ refusal.OutOfMemory → ⊥
    by true h out = let q : None ≡ Some e = h in absurd (cc)
    by false h out = let q : Some (refusal.ValueLength n) ≡ Some e = h in let z : refusal.ValueLength n ≡ refusal.OutOfMemory = cc in absurd (cc)

-- a put that is refused for its key or its value
pub row-replies : (told : Bool) (b : Books) (k : Known) (name key value : List ℕ) (e : Refusal) → KnowsAll (alone told) b k
    → IsDue (first_due (key_refusal (length key) ∷ value_refusal (length value) ∷ [])) e
    → Answers (alone told) b b k (command.Put name key value) (reply.Refused e)
row-replies told b k name key value e all h =
    let c = command.Put name key value in
    let due_is = first_due (key_refusal (length key) ∷ value_refusal (length value) ∷ []) in
    refused-answers (alone told) b b k c e all (after-itself b) (keeps-same 0 b)
    (⊎_elim
    (λ q. subst (λ z. ReplyFits (alone told) b k c (reply.Refused z)) (sym q) tt)
    (λ q. fits_due (alone told) b k c (refuses e) e
    (due-row (key_refusal (length key)) (value_refusal (length value)) (handle_cause k name ∷ dropped_cause k name ∷ []) e q)
    (⊎_elim
    (λ x. no-want (length key) e x)
    (λ y. no-want-value (length value) e (last-due (value_refusal (length value)) e y))
    (first-or (key_refusal (length key)) (value_refusal (length value) ∷ []) e q))
    refl)
    (due-or due_is e h))

pub put-is : (told : Bool) (name key value : List ℕ) → key_refusal (length key) ≡ None → value_refusal (length value) ≡ None
    → IsWriteOf told (command.Put name key value) name key (op.Put value) reply.Put
put-is told name key value in_key in_value = record {
  due_is = λ k.
      first-next (key_cause key) (value_cause value ∷ handle_cause k name ∷ dropped_cause k name ∷ []) (key-free key in_key)
      ∙ first-next (value_cause value) (handle_cause k name ∷ dropped_cause k name ∷ []) (value-free value in_value);
  met = λ b k e f has met. through (k.handles name) f (WriteMet b k e) has met;
  out = tt;
  answers = λ a b k f w n all after is has none at number.
      put-answers (alone told) a b k f w all after is name key value n has none at number;
}

pub delete-is : (told : Bool) (name key : List ℕ) → key_refusal (length key) ≡ None
    → IsWriteOf told (command.Delete name key) name key op.Delete reply.Delete
delete-is told name key in_key = record {
  due_is = λ k. first-next (key_cause key) (handle_cause k name ∷ dropped_cause k name ∷ []) (key-free key in_key);
  met = λ b k e f has met. through (k.handles name) f (WriteMet b k e) has met;
  out = tt;
  answers = λ a b k f w n all after is has none at number.
      delete-answers (alone told) a b k f w all after is name key n has none at number;
}
