-- Registers that grow by one object at most, and lists of which one item changes.
use Rattle.std.specs.Prelude.{◌≡◌, ◌≢◌, ◌+◌, ◌++◌, ◌∷◌, ◌⊎◌, ℕ, List, [], Some, length, slice_get}

-- the register stands, or has one object more, of which P holds
abbrev pub Grows : {A : Type 0} → (ℕ → A → Type 0) → List A → List A → Type 0
Grows {A} P a b = (b ≡ a) ⊎ ((y : A) × (b ≡ a ++ y ∷ []) × P (length a + 1) y)

-- item number f is x now, and the others are as they were
pub record IsPlaced {A : Type 0} (a b : List A) (f : ℕ) (x : A) : Type 0 where
  pub here : slice_get b f ≡ Some x
  pub others : (g : ℕ) → g ≢ f → slice_get b g ≡ slice_get a g
