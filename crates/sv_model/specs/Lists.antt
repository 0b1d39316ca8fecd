-- Words on lists: what stands in one, how often, each once, in the same order.
use Rattle.std.specs.Prelude.{◌≡◌, ℕ, zero, suc, ◌+◌, Bool, List, [], ◌∷◌, Some, slice_get, cond, ◌==◌, ◌⊎◌, ◌↔◌}

-- the item stands in the list
pub record In {A : Type 0} (x : A) (l : List A) : Type 0 where
  pub at : ℕ
  pub is : slice_get l at ≡ Some x

-- P holds of each item
abbrev pub Every : {A : Type 0} → (A → Type 0) → List A → Type 0
Every {A} P l = (i : ℕ) (x : A) → slice_get l i ≡ Some x → P x

-- each item stands in the list once
abbrev pub Distinct : {A : Type 0} → List A → Type 0
Distinct {A} l = (i j : ℕ) (x : A) → slice_get l i ≡ Some x → slice_get l j ≡ Some x → i ≡ j

-- The first list is the second with some items left out: the others keep their order.
abbrev pub IsPartOf : {A : Type 0} → List A → List A → Type 0
IsPartOf [] ys = Unit {0}
IsPartOf (x ∷ xs) [] = ⊥
IsPartOf (x ∷ xs) (y ∷ ys) = ((x ≡ y) × IsPartOf xs ys) ⊎ IsPartOf (x ∷ xs) ys

-- the sum of g over the items
abbrev pub total : {A : Type 0} → (A → ℕ) → List A → ℕ
total g [] = 0
total g (x ∷ xs) = g x + total g xs

-- 1 where it is so
abbrev pub bit : Bool → ℕ
bit b = cond b 1 0

-- 1 where both numbers are the same, else 0
abbrev pub same : ℕ → ℕ → ℕ
same n m = cond (m == n) 1 0

-- how often n stands in the list
abbrev pub times : ℕ → List ℕ → ℕ
times n l = total (same n) l

-- The list gives the items of all that are so, in their order, each once.
pub record IsChosen (P : ℕ → Type 0) (all given : List ℕ) : Type 0 where
  pub exact : (n : ℕ) → In n given ↔ (In n all × P n)
  pub once : Distinct given
  pub order : IsPartOf given all

-- a list has d wherever nothing was put
abbrev pub at : {A : Type 0} → A → List A → ℕ → A
at d [] i = d
at d (x ∷ xs) zero = x
at d (x ∷ xs) (suc i) = at d xs i
