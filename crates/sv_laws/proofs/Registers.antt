-- Registers that go on, and of which one record changes.
use Rattle.std.proofs.Common.{◌≡◌, ◌<◌, ◌≤◌, ℕ, zero, suc, ◌⊎◌, inl, inr, ⊎_elim, Bool, true, false, List, [], ◌∷◌, length, Some, refl, sym, ap, ◌∙◌, subst, arith}
use mathlib.Core.Logic.{dite}
use native.Mathlib.Decide.{ℕ_discrete}
use Rattle.sv_model.specs.Lists.{total}
use Rattle.sv_model.specs.Registers.{entry, change, Has, GoesOn}
use Rattle.sv_model.proofs.Registers.{entry-else, entry_change, entry_le, get-some, entry-some, goes-rest}
use Rattle.sv_model.proofs.Entries.{some}

-- a record that is there now was there before
pub goes-back : {A : Type 0} (R : A → A → Type 0) (a b : List A) → GoesOn R a b → length b ≡ length a
    → (n : ℕ) (y : A) → entry b n ≡ Some y → (x : A) × (entry a n ≡ Some x) × R x y
goes-back R a b g q n y e =
    let h = entry_le b n y e in
    let t = entry-some a n h.0 (omega (arith, h.1, q)) in
    let u = g n t.0 t.1 in
    (t.0, t.1, subst (R t.0) (some (sym u.1 ∙ e)) u.2)

-- a holder that names nothing once it is changed
pub has-shrink : {A : Type 0} (P : A → Type 0) (l : List A) (n : ℕ) (y : A) → (P y → ⊥) → Has P (change l n y) → Has P l
has-shrink P l n y none h =
    ⊎_elim (λ q. absurd (none (subst P q.1 h.3))) (λ q. (h.0, h.1, q.1, h.3)) (entry_change l n h.0 y h.1 h.2)

-- the other holders still name
pub has-keep : {A : Type 0} (P : A → Type 0) (l : List A) (n : ℕ) (x y : A) → entry l n ≡ Some x → Has P l
    → Has P (change l n y) ⊎ P x
has-keep P l n x y e h =
    dite (ℕ_discrete h.0 n)
    (λ q. inr (subst P (some (sym h.2 ∙ ap (entry l) q ∙ e)) h.3))
    (λ q. inl (h.0, h.1, entry-else l n h.0 y q ∙ h.2, h.3))

pub live-back : (b c : Bool) → (b ≡ false → c ≡ false) → c ≡ true → b ≡ true
live-back true c h e = refl
live-back false c h e = let f : c ≡ false = h refl in absurd (cc)

-- sums over records that are related
pub total-le : {A : Type 0} (R : A → A → Type 0) (w : A → ℕ) → ((x y : A) → R x y → w y ≤ w x) → (a b : List A)
    → length b ≡ length a → GoesOn R a b → total w b ≤ total w a
total-le R w le [] [] q g = omega arith
total-le R w le [] (y ∷ b) q g = absurd (omega arith)
total-le R w le (x ∷ a) [] q g = absurd (omega arith)
total-le R w le (x ∷ a) (y ∷ b) q g =
    let t = g 1 x refl in
    let one : w y ≤ w x = le x y (subst (R x) (sym (some t.1)) t.2) in
    omega (arith, one, total-le R w le a b (omega arith) (goes-rest R x y a b g))

pub total-same : {A : Type 0} (R : A → A → Type 0) (w : A → ℕ) → ((x y : A) → R x y → w y ≡ w x) → (a b : List A)
    → length b ≡ length a → GoesOn R a b → total w b ≡ total w a
total-same R w eq [] [] q g = refl
total-same R w eq [] (y ∷ b) q g = absurd (omega arith)
total-same R w eq (x ∷ a) [] q g = absurd (omega arith)
total-same R w eq (x ∷ a) (y ∷ b) q g =
    let t = g 1 x refl in
    let one : w y ≡ w x = eq x y (subst (R x) (sym (some t.1)) t.2) in
    omega (arith, one, total-same R w eq a b (omega arith) (goes-rest R x y a b g))
