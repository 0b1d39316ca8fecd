-- A file number that is registered once has one entry.
use Rattle.std.proofs.Common.{◌≡◌, ◌≢◌, ◌≤◌, inl, inr, ℕ, zero, suc, ◌+◌, List, [], ◌∷◌, Some, slice_get, ap, arith, refl}
use Rattle.sv_model.specs.declared.records.RegisteredFile.{RegisteredFile}
use Rattle.sv_model.specs.Lists.{total, same}
use Rattle.sv_model.specs.Registers.{entry}
use Rattle.sv_model.specs.Numbers.{registered}
use Rattle.sv_model.proofs.Lists.{total_at, same_here}
use Rattle.sv_model.proofs.Basics.{apart_or}

two_places : {A : Type 0} (g : A → ℕ) (l : List A) (i j : ℕ) (x y : A) → i ≢ j → slice_get l i ≡ Some x → slice_get l j ≡ Some y → g x + g y ≤ total g l
two_places g [] i j x y apart a b = absurd (cc)
two_places g (z ∷ l) zero zero x y apart a b = absurd (apart refl)
two_places g (z ∷ l) zero (suc j) x y apart a b = let e : z ≡ x = cc in let h = total_at g l j y b in omega (arith, ap g e)
two_places g (z ∷ l) (suc i) zero x y apart a b = let e : z ≡ y = cc in let h = total_at g l i x a in omega (arith, ap g e)
two_places g (z ∷ l) (suc i) (suc j) x y apart a b =
    let h = two_places g l i j x y (λ e. apart (ap suc e)) a b in omega arith

one_place : (l : List RegisteredFile) (n p q : ℕ) (x y : RegisteredFile) → registered n l ≤ 1 → slice_get l p ≡ Some x → slice_get l q ≡ Some y → x.number ≡ n → y.number ≡ n → p ≡ q
one_place l n p q x y once a b xn yn = elim (apart_or p q) [
  | inl e ↦ e
  | inr apart ↦
      let h = two_places (λ z. same n z.number) l p q x y apart a b in
      let one = same_here n in
      absurd (omega (arith, ap (same n) xn, ap (same n) yn))
]

pub one_entry : (l : List RegisteredFile) (n i j : ℕ) (x y : RegisteredFile) → registered n l ≤ 1 → entry l i ≡ Some x → entry l j ≡ Some y → x.number ≡ n → y.number ≡ n → i ≡ j
one_entry l n zero j x y once a b xn yn = absurd (cc)
one_entry l n (suc i) zero x y once a b xn yn = absurd (cc)
one_entry l n (suc i) (suc j) x y once a b xn yn = ap suc (one_place l n i j x y once a b xn yn)

-- no two entries have one number
pub entries_apart : (l : List RegisteredFile) → ((n : ℕ) → registered n l ≤ 1) → (i j : ℕ) (x y : RegisteredFile) → entry l i ≡ Some x → entry l j ≡ Some y → x.number ≡ y.number → i ≡ j
entries_apart l once i j x y a b same = one_entry l y.number i j x y (once y.number) a b same refl
