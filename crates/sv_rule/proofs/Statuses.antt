-- A registered number has one status.
use Rattle.std.proofs.Common.{Bool, List, Some, [], ap, arith, cond, eq-eqb, false, ne_eqb, refl, slice_get, suc, sym, true, zero, ℕ, ◌+◌, ◌==◌, ◌∙◌, ◌∷◌, ◌≡◌, ◌≢◌, ◌≤◌}
use mathlib.Core.Logic.{dite}
use native.Mathlib.Decide.{ℕ_discrete}
use Rattle.sv_model.specs.After.{KeepsNumber}
use Rattle.sv_model.specs.Lists.{bit, same, total}
use Rattle.sv_model.specs.Numbers.{IsRegistered, having, is_grabbed, is_live, is_pending, registered}
use Rattle.sv_model.specs.Registers.{GoesOn, Has, entry}
use Rattle.sv_model.specs.Summaries.{is_gone, is_obsolete}
use Rattle.sv_model.specs.declared.records.FileStatus.{FileStatus}
use Rattle.sv_model.specs.declared.records.FileStatus.TheVariants.{Gone, Grabbed, Live, Obsolete, Pending}
use Rattle.sv_model.specs.declared.records.RegisteredFile.{RegisteredFile}
use Rattle.sv_model.proofs.Lists.{same_is, total_at}
use Rattle.sv_model.proofs.Registers.{has_total, total_entry}
use Rattle.sv_rule.proofs.Sums.{same_one}

one_status : (b : Bool) (s : FileStatus) → cond b (bit (is_pending s)) 0 + cond b (bit (is_live s)) 0 + cond b
    (bit (is_obsolete s)) 0 + cond b (bit (is_grabbed s)) 0 + cond b (bit (is_gone s)) 0 ≡ cond b 1 0
one_status false s = refl
one_status true Pending = refl
one_status true Live = refl
one_status true Obsolete = refl
one_status true Grabbed = refl
one_status true Gone = refl

pub statuses : (n : ℕ) (l : List RegisteredFile) → having is_pending n l + having is_live n l + having is_obsolete n
    l + having is_grabbed n l + having is_gone n l ≡ registered n l
statuses n [] = refl
statuses n (x ∷ l) = omega (arith, one_status (x.number == n) x.status, statuses n l)

pub registered-has : (n : ℕ) (l : List RegisteredFile) → 1 ≤ registered n l → Has (λ x. x.number ≡ n) l
registered-has n l h = let w = has_total (λ (x : RegisteredFile). same n x.number) l (omega arith) in
    (w.0, w.1, w.2, sym (same_is n w.1.number w.3))

pub has-registered : (n : ℕ) (l : List RegisteredFile) → Has (λ x. x.number ≡ n) l → 1 ≤ registered n l
has-registered n l h = omega (
  arith,
  total_entry (λ (x : RegisteredFile). same n x.number) l h.0 h.1 h.2,
  same_one n h.1.number h.3,
)

-- what is registered stays registered
pub registered-stays : (a b : List RegisteredFile) → GoesOn KeepsNumber a b → (n : ℕ) → 1 ≤ registered n a
    → 1 ≤ registered n b
registered-stays a b goes n h = let w = registered-has n a h in let x = goes w.0 w.1 w.2 in
    has-registered n b (w.0, x.0, x.1, x.2.number ∙ w.3)

having_one : (is : FileStatus → Bool) (n : ℕ) (x : RegisteredFile) (b : Bool) (c : Bool) → (x.number == n) ≡ b
    → is x.status ≡ c → 1 ≤ cond b (bit c) 0 → (x.number ≡ n) × (is x.status ≡ true)
having_one is n x true true e s h = (
  dite (ℕ_discrete x.number n) (λ q. q)
      (λ q. absurd (clash (sym (ne_eqb x.number n q) ∙ e))),
  s,
)
  where
    clash : false ≡ true → ⊥
    clash e = cc
having_one is n x true false e s h = absurd (omega arith)
having_one is n x false c e s h = absurd (omega arith)

pub having-has : (is : FileStatus → Bool) (n : ℕ) (l : List RegisteredFile) → 1 ≤ having is n l
    → Has (λ x. (x.number ≡ n) × (is x.status ≡ true)) l
having-has is n l h =
    let w = has_total (λ (x : RegisteredFile). cond (x.number == n) (bit (is x.status)) 0) l (omega arith) in
    (w.0, w.1, w.2, having_one is n w.1 (w.1.number == n) (is w.1.status) refl refl (omega (arith, w.3)))

pub has-having : (is : FileStatus → Bool) (n : ℕ) (l : List RegisteredFile)
    → Has (λ x. (x.number ≡ n) × (is x.status ≡ true)) l → 1 ≤ having is n l
has-having is n l h =
    let term : cond (h.1.number == n) (bit (is h.1.status)) 0 ≡ 1 = ap (λ b. cond b (bit (is h.1.status)) 0)
    (eq-eqb h.1.number n h.3.0) ∙ ap bit h.3.1 in
    omega (arith, total_entry (λ (x : RegisteredFile). cond (x.number == n) (bit (is x.status)) 0) l h.0 h.1 h.2, term)

-- a number that is registered once has one record
entries_le : {A : Type 0} (g : A → ℕ) (l : List A) (i j : ℕ) (x y : A) → i ≢ j → slice_get l i ≡ Some x
    → slice_get l j ≡ Some y → g x + g y ≤ total g l
entries_le g [] i j x y n e d = absurd (cc)
entries_le g (z ∷ l) zero zero x y n e d = absurd (n refl)
entries_le g (z ∷ l) zero (suc j) x y n e d = let q : z ≡ x = cc in let r = total_at g l j y d in omega (arith, ap g q)
entries_le g (z ∷ l) (suc i) zero x y n e d = let q : z ≡ y = cc in let r = total_at g l i x e in omega (arith, ap g q)
entries_le g (z ∷ l) (suc i) (suc j) x y n e d = let r = entries_le g l i j x y (λ h. n (ap suc h)) e d in omega arith

pub once-same : (l : List RegisteredFile) (n i j : ℕ) (x y : RegisteredFile) → registered n l ≤ 1 → entry l i ≡ Some x
    → entry l j ≡ Some y → x.number ≡ n → y.number ≡ n → x ≡ y
once-same l n zero j x y once e d p q = absurd (cc)
once-same l n (suc i) zero x y once e d p q = absurd (cc)
once-same l n (suc i) (suc j) x y once e d p q = dite (ℕ_discrete i j)
    (λ h. let s : Some x ≡ Some y = sym e ∙ ap (slice_get l) h ∙ d in let r : x ≡ y = cc in r)
    (λ h. absurd (omega (
      arith,
      entries_le (λ (z : RegisteredFile). same n z.number) l i j x y h e d,
      same_one n x.number p,
      same_one n y.number q,
      once,
    )))

gone_is : (s : FileStatus) → is_gone s ≡ true → s ≡ Gone
gone_is Pending e = absurd (cc)
gone_is Live e = absurd (cc)
gone_is Obsolete e = absurd (cc)
gone_is Grabbed e = absurd (cc)
gone_is Gone e = refl

pub gone-registered : (n : ℕ) (l : List RegisteredFile) → 1 ≤ having is_gone n l → IsRegistered l n Gone
gone-registered n l h = let w = having-has is_gone n l h in
    (w.0, w.1, w.2, record { number_is = w.3.0; status_is = gone_is w.1.status w.3.1 })

pub is_live_of : (s : FileStatus) → is_live s ≡ true → s ≡ Live
is_live_of Pending e = absurd (cc)
is_live_of Live e = refl
is_live_of Obsolete e = absurd (cc)
is_live_of Grabbed e = absurd (cc)
is_live_of Gone e = absurd (cc)

pub live-registered : (n : ℕ) (l : List RegisteredFile) → 1 ≤ having is_live n l → IsRegistered l n Live
live-registered n l h = let w = having-has is_live n l h in
    (w.0, w.1, w.2, record { number_is = w.3.0; status_is = is_live_of w.1.status w.3.1 })

pub live-having : (n : ℕ) (l : List RegisteredFile) → IsRegistered l n Live → 1 ≤ having is_live n l
live-having n l h = has-having is_live n l (h.0, h.1, h.2, (h.3.number_is, ap is_live h.3.status_is))

pub gone-having : (n : ℕ) (l : List RegisteredFile) → IsRegistered l n Gone → 1 ≤ having is_gone n l
gone-having n l h = has-having is_gone n l (h.0, h.1, h.2, (h.3.number_is, ap is_gone h.3.status_is))
