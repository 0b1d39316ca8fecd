-- Numbers grabbed one after the other.
use Rattle.std.proofs.Common.{◌≡◌, ◌≢◌, ◌<◌, ◌≤◌, ◌==◌, ◌||◌, ℕ, zero, suc, ◌+◌, ◌⊎◌, inl, inr, ⊎_elim, Bool, true, false, cond, List, [], ◌∷◌, ◌++◌, map, Option, Some, None, option_map, is_some, slice_get, set, refl, sym, ap, ◌∙◌, subst, arith}
use Rattle.std.specs.List.{list_any}
use Rattle.std.proofs.lemmas.Bool.{false≢true}
use Rattle.std.proofs.lemmas.Bool.Decides.{nat_tests}
use Rattle.std.proofs.lemmas.Option.{slice_get-map}
use Rattle.sv_model.specs.declared.records.RegisteredFile.{RegisteredFile}
use Rattle.sv_model.specs.declared.records.FileStatus.{FileStatus}
use Rattle.sv_model.specs.declared.records.FileStatus.TheVariants.{Pending, Grabbed}
use Rattle.sv_model.specs.Lists.{In, same}
use Rattle.sv_model.specs.Numbers.{IsMarked, IsRegistered, NumbersStand, captures, registered}
use Rattle.sv_model.specs.Registers.{entry, change}
use Rattle.sv_model.proofs.Lists.{same_here}
use Rattle.sv_files.specs.Calls.{grab}
use Rattle.sv_files.proofs.Registered.{some_is, with_status, registered-at}
use Rattle.sv_model.proofs.Basics.{none_some}

-- ---- whether a number was found
abbrev pub is_in : ℕ → List ℕ → Bool
is_in k found = list_any (λ n. n == k) found

test_or : (n k : ℕ) → (((n == k) ≡ true) × (n ≡ k)) ⊎ (((n == k) ≡ false) × (n ≢ k))
test_or n k = grind (arith, nat_tests)

or-true : (b : Bool) → (b || true) ≡ true
or-true true = refl
or-true false = refl

or-false : (b : Bool) → (b || false) ≡ b
or-false true = refl
or-false false = refl

in-at : (k : ℕ) (found : List ℕ) (i : ℕ) → slice_get found i ≡ Some k → is_in k found ≡ true
in-at k [] i at = absurd (cc)
in-at k (n ∷ found) zero at = elim (test_or n k) [
  | inl eq ↦ ap (λ b. b || is_in k found) eq.0
  | inr ne ↦ absurd (ne.1 (some_is n k at))
]
in-at k (n ∷ found) (suc i) at = ap (λ b. (n == k) || b) (in-at k found i at) ∙ or-true (n == k)

pub in-is : (k : ℕ) (found : List ℕ) → In k found → is_in k found ≡ true
in-is k found there = in-at k found there.at there.is

pub is-in : (k : ℕ) (found : List ℕ) → is_in k found ≡ true → In k found
is-in k [] e = absurd (false≢true e)
is-in k (n ∷ found) e = elim (test_or n k) [
  | inl eq ↦ record { at = 0; is = ap Some eq.1 }
  | inr ne ↦ let t = is-in k found (ap (λ b. b || is_in k found) (sym ne.0) ∙ e) in record { at = suc t.at; is = t.is }
]

or-assoc : (a b c : Bool) → (a || (b || c)) ≡ ((a || b) || c)
or-assoc true b c = refl
or-assoc false b c = refl

in-push : (k n : ℕ) (found : List ℕ) → is_in k (found ++ n ∷ []) ≡ (is_in k found || (n == k))
in-push k n [] = or-false (n == k)
in-push k n (m ∷ found) = ap (λ b. (m == k) || b) (in-push k n found) ∙ or-assoc (m == k) (is_in k found) (n == k)

-- ---- one number more is grabbed
grab_here : (found : List ℕ) (x : RegisteredFile) → with_status (grab found x) Grabbed ≡ grab (found ++ x.number ∷ []) x
grab_here found x = elim (test_or x.number x.number) [
  | inl eq ↦ ap (λ (b : Bool). with_status x (cond b Grabbed x.status)) (sym (in-push x.number x.number found ∙ ap (λ b. is_in x.number found || b) eq.0 ∙ or-true (is_in x.number found)))
  | inr ne ↦ absurd (ne.1 refl)
]

grab-else : (found : List ℕ) (n : ℕ) (x : RegisteredFile) → x.number ≢ n → grab found x ≡ grab (found ++ n ∷ []) x
grab-else found n x apart = elim (test_or n x.number) [
  | inl eq ↦ absurd (apart (sym eq.1))
  | inr ne ↦ ap (λ (b : Bool). with_status x (cond b Grabbed x.status)) (sym (in-push x.number n found ∙ ap (λ b. is_in x.number found || b) ne.0 ∙ or-false (is_in x.number found)))
]

grab-absent : (found : List ℕ) (n : ℕ) (l : List RegisteredFile) → registered n l ≡ 0 → map (grab found) l ≡ map (grab (found ++ n ∷ [])) l
grab-absent found n [] none = refl
grab-absent found n (x ∷ l) none =
    let apart : x.number ≢ n = λ e. (let one = same_here n in omega (arith, ap (same n) e)) in
    let h = grab-else found n x apart in
    let t = grab-absent found n l (omega arith) in cc

grab-at : (found : List ℕ) (l : List RegisteredFile) (p : ℕ) (x : RegisteredFile) → slice_get l p ≡ Some x → registered x.number l ≤ 1 → set (map (grab found) l) p (with_status (grab found x) Grabbed) ≡ map (grab (found ++ x.number ∷ [])) l
grab-at found [] p x at once = absurd (cc)
grab-at found (z ∷ l) zero x at once =
    let e : z ≡ x = some_is z x at in
    let one = same_here x.number in
    let t = grab-absent found x.number l (omega (arith, ap (λ (y : RegisteredFile). same x.number y.number) e)) in
    let h = grab_here found x ∙ ap (grab (found ++ x.number ∷ [])) (sym e) in cc
grab-at found (z ∷ l) (suc p) x at once =
    let some = registered-at l p x at in
    let one = same_here x.number in
    let apart : z.number ≢ x.number = λ e. (omega (arith, ap (same x.number) e)) in
    let h = grab-else found x.number z apart in
    let t = grab-at found l p x at (omega arith) in cc

pub grab-none : (l : List RegisteredFile) → l ≡ map (grab []) l
grab-none [] = refl
grab-none (x ∷ l) = ap (λ k. x ∷ k) (grab-none l)

pub registered-grab : (n : ℕ) (found : List ℕ) (l : List RegisteredFile) → registered n (map (grab found) l) ≡ registered n l
registered-grab n found [] = refl
registered-grab n found (x ∷ l) = ap (λ k. same n x.number + k) (registered-grab n found l)

pub captures-grab : (found : List ℕ) (l : List RegisteredFile) → captures (map (grab found) l) ≡ captures l
captures-grab found [] = refl
captures-grab found (x ∷ l) = ap (λ k. cond (is_some x.family) 1 0 + k) (captures-grab found l)

-- an entry of the grabbed list is a grabbed one
pub grabbed-entry : (found : List ℕ) (l : List RegisteredFile) (i : ℕ) (y : RegisteredFile) → entry (map (grab found) l) i ≡ Some y → (x : RegisteredFile) × (entry l i ≡ Some x) × (y ≡ grab found x)
grabbed-entry found l zero y at = absurd (cc)
grabbed-entry found l (suc p) y at = by-case (slice_get l p) refl
  where
    by-case : (o : Option RegisteredFile) → slice_get l p ≡ o → (x : RegisteredFile) × (slice_get l p ≡ Some x) × (y ≡ grab found x)
    by-case (Some x) e = (x, e, some_is y (grab found x) (sym at ∙ slice_get-map (grab found) l p ∙ ap (option_map (grab found)) e))
    by-case None e = absurd (none_some y (ap (option_map (grab found)) (sym e) ∙ sym (slice_get-map (grab found) l p) ∙ at))

pub entry-grabbed : (found : List ℕ) (l : List RegisteredFile) (i : ℕ) (x : RegisteredFile) → entry l i ≡ Some x → entry (map (grab found) l) i ≡ Some (grab found x)
entry-grabbed found l zero x at = absurd (cc)
entry-grabbed found l (suc p) x at = slice_get-map (grab found) l p ∙ ap (option_map (grab found)) at

pub grab_more : (n : ℕ) (was : FileStatus) (found : List ℕ) (l new : List RegisteredFile) → registered n l ≤ 1 → IsMarked n was Grabbed (map (grab found) l) new → new ≡ map (grab (found ++ n ∷ [])) l
grab_more n was found l new once m = by-place m.at m.found m.marked
  where
    by-place : (i : ℕ) → entry (map (grab found) l) i ≡ Some m.it → new ≡ change (map (grab found) l) i (with_status m.it Grabbed) → new ≡ map (grab (found ++ n ∷ [])) l
    by-place zero at is = absurd (cc)
    by-place (suc p) at is =
        let x = grabbed-entry found l (suc p) m.it at in
        let number_is : x.0.number ≡ n = ap (λ (z : RegisteredFile). z.number) (sym x.2) ∙ m.had.number_is in
        let there = grab-at found l p x.0 x.1 (omega (arith, once, ap (λ k. registered k l) number_is)) in
        is ∙ ap (λ (z : RegisteredFile). set (map (grab found) l) p (with_status z Grabbed)) x.2 ∙ there ∙ ap (λ k. map (grab (found ++ k ∷ [])) l) number_is

-- ---- the laws of numbers stand where each that is grabbed was not Pending and is below each captured one
module _ (found : List ℕ) (l : List RegisteredFile) (C : List (Option ℕ)) (next : ℕ) (law : NumbersStand l C next)
    (not_pending : (n : ℕ) → In n found → IsRegistered l n Pending → ⊥)
    (low : (n : ℕ) → In n found → (f k : ℕ) → slice_get C f ≡ Some (Some k) → n < k) where
  -- what was found is Grabbed, and the others stand
  grab_or : (x : RegisteredFile) → ((is_in x.number found ≡ true) × (grab found x ≡ with_status x Grabbed)) ⊎ ((is_in x.number found ≡ false) × (grab found x ≡ x))
  grab_or x = by-case (is_in x.number found) refl
    where
      by-case : (b : Bool) → is_in x.number found ≡ b → ((is_in x.number found ≡ true) × (grab found x ≡ with_status x Grabbed)) ⊎ ((is_in x.number found ≡ false) × (grab found x ≡ x))
      by-case true e = inl (e, ap (λ (b : Bool). with_status x (cond b Grabbed x.status)) e)
      by-case false e = inr (e, ap (λ (b : Bool). with_status x (cond b Grabbed x.status)) e)

  grabbed_pending : {A : Type 0} → Grabbed ≡ Pending → A
  grabbed_pending e = absurd (cc)

  pub numbers-grabbed : NumbersStand (map (grab found) l) C next
  numbers-grabbed = record {
    once = λ n. omega (arith, law.once n, registered-grab n found l);
    below = λ i y at. let x = grabbed-entry found l i y at in omega (arith, law.below i x.0 x.1, ap (λ (z : RegisteredFile). z.number) x.2);
    pending = λ i y at p. let x = grabbed-entry found l i y at in ⊎_elim
        (λ g. grabbed_pending (ap (λ (z : RegisteredFile). z.status) (sym g.1 ∙ sym x.2) ∙ p))
        (λ g. let is : y ≡ x.0 = x.2 ∙ g.1 in
        let w = law.pending i x.0 x.1 (ap (λ (z : RegisteredFile). z.status) (sym is) ∙ p) in
        (w.0, ap (λ (z : RegisteredFile). z.family) is ∙ w.1, w.2 ∙ ap (λ (z : RegisteredFile). Some (Some z.number)) (sym is)))
        (grab_or x.0);
    held = λ f n e. let w = law.held f n e in ⊎_elim
        (λ g. absurd (not_pending n (subst (λ k. In k found) w.3.number_is (is-in w.1.number found g.0)) (w.0, w.1, w.2, record { number_is = w.3.number_is; status_is = w.3.status_is })))
        (λ g. (w.0, w.1, entry-grabbed found l w.0 w.1 w.2 ∙ ap Some g.1, w.3))
        (grab_or w.1);
    drawn = λ i y at p. let x = grabbed-entry found l i y at in
        let d = law.drawn i x.0 x.1 (ap (λ (z : RegisteredFile). is_some z.family) (sym x.2) ∙ p) in omega (arith, d, ap (λ (z : RegisteredFile). z.number) x.2);
    grabbed = λ i y at p f k c. let x = grabbed-entry found l i y at in ⊎_elim
        (λ g. (let b = low x.0.number (is-in x.0.number found g.0) f k c in omega (arith, b, ap (λ (z : RegisteredFile). z.number) x.2)))
        (λ g. (let b = law.grabbed i x.0 x.1 (ap (λ (z : RegisteredFile). z.status) (sym (x.2 ∙ g.1)) ∙ p) f k c in omega (arith, b, ap (λ (z : RegisteredFile). z.number) x.2)))
        (grab_or x.0);
    least = law.least;
    most = law.most;
  }
