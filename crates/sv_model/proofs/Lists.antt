-- Laws on what stands in a list, how often and in which order.
use Rattle.std.proofs.Common.{◌≡◌, ◌≢◌, ℕ, zero, suc, ◌+◌, ◌<◌, ◌≤◌, ◌⊎◌, inl, inr, List, [], ◌∷◌, ◌++◌, Some, slice_get, set, arith, refl, sym, ap, ◌∙◌}
use Rattle.std.proofs.lemmas.Grind.{common_steps}
use Rattle.sv_model.specs.Lists.{In, total, same, times}

-- ---- sums
pub total-append : {A : Type 0} (g : A → ℕ) (xs ys : List A) → total g (xs ++ ys) ≡ total g xs + total g ys
total-append g [] ys = omega arith
total-append g (x ∷ xs) ys = omega (arith, total-append g xs ys)

pub total-push : {A : Type 0} (g : A → ℕ) (xs : List A) (y : A) → total g (xs ++ y ∷ []) ≡ total g xs + g y
total-push g xs y = omega (arith, total-append g xs (y ∷ []))

-- each term is within the sum
pub total_at : {A : Type 0} (g : A → ℕ) (xs : List A) (i : ℕ) (x : A) → slice_get xs i ≡ Some x → g x ≤ total g xs
total_at g [] i x is = absurd (cc)
total_at g (y ∷ xs) zero x is = let e : y ≡ x = cc in let f = ap g e in omega arith
total_at g (y ∷ xs) (suc i) x is = let h = total_at g xs i x is in omega arith

-- a sum above 0 has a term above 0
pub at_total : {A : Type 0} (g : A → ℕ) (xs : List A) → 0 < total g xs → (i : ℕ) × (x : A) × (slice_get xs i ≡ Some x) × (0 < g x)
at_total g [] more = absurd (omega arith)
at_total {A} g (y ∷ xs) more =
    let cases : (0 < g y) ⊎ (0 < total g xs) = grind arith in
    elim cases [
      | inl here ↦ (0, y, refl, here)
      | inr later ↦ let h = at_total g xs later in (suc h.0, h.1, h.2, h.3)
    ]

pub total-set : {A : Type 0} (g : A → ℕ) (xs : List A) (i : ℕ) (x y : A) → slice_get xs i ≡ Some x → total g (set xs i y) + g x ≡ total g xs + g y
total-set g [] i x y is = absurd (cc)
total-set g (z ∷ xs) zero x y is = let e : z ≡ x = cc in let f = ap g e in omega arith
total-set g (z ∷ xs) (suc i) x y is = let h = total-set g xs i x y is in omega arith

-- ---- how often a number stands in a list
pub same_here : (n : ℕ) → same n n ≡ 1
same_here n = grind (arith, common_steps)

pub same_other : (n m : ℕ) → n ≢ m → same n m ≡ 0
same_other n m apart = grind (arith, common_steps)

pub same_is : (n m : ℕ) → 0 < same n m → n ≡ m
same_is n m more = grind (arith, common_steps)

pub same-le : (n m : ℕ) → same n m ≤ 1
same-le n m = grind (arith, common_steps)

pub times_in : (n : ℕ) (xs : List ℕ) → In n xs → 0 < times n xs
times_in n xs there =
    let one = same_here n in let h = total_at (same n) xs there.at n there.is in omega arith

pub in_times : (n : ℕ) (xs : List ℕ) → 0 < times n xs → In n xs
in_times n xs more =
    let h = at_total (same n) xs more in
    let e : n ≡ h.1 = same_is n h.1 h.3 in
    record { at = h.0; is = h.2 ∙ ap Some (sym e) }
