-- Sums over lists and numbers, and lists that are read by number.
use mathlib.Core.Option.{some}
use lib.ListN.{get_elem?}
use Rattle.std.specs.Prelude.{◌≡◌, ◌≢◌, ℕ, zero, suc, ◌+◌, List, [], ◌∷◌, cond, ◌==◌}

-- the sum of f over the numbers below n
unfoldable pub below : (ℕ → ℕ) → ℕ → ℕ
below f zero = 0
below f (suc n) = below f n + f n

abbrev pub put : {A : Type 0} → A → List A → ℕ → A → List A
put d [] zero a = a ∷ []
put d [] (suc i) a = d ∷ put d [] i a
put d (x ∷ xs) zero a = a ∷ xs
put d (x ∷ xs) (suc i) a = x ∷ put d xs i a

-- a list with one p fewer
abbrev pub without : ℕ → List ℕ → List ℕ
without p [] = []
without p (x ∷ xs) = cond (x == p) xs (x ∷ without p xs)

-- g is f but for the value x at j
pub record Put {A : Type 0} (f g : ℕ → A) (j : ℕ) (x : A) : Type 0 where
  pub here : g j ≡ x
  pub else : (k : ℕ) → k ≢ j → g k ≡ f k

-- P holds of each view, with its place among the seats
abbrev pub Each : {A : Type 0} → (ℕ → A → Type 0) → List A → Type 0
Each P vs = (j : ℕ) (v : _) → get_elem? vs j ≡ some v → P j v
