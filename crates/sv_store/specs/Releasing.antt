-- A handle of a family is given back.
use Rattle.std.specs.Prelude.{◌⊎◌, ℕ, List, None, Some}
use Rattle.sv_model.specs.Books.{Books}
use Rattle.sv_state.specs.Gone.{IsReleasedAs}
use Rattle.sv_store.specs.Going.{CurrentGoes}

-- The family that the lane meant by the name is retired, since no lane has a handle of it any more, and the
-- SuperVersion that was its current is Gone.
pub record Retires (a b : Books) (name : List ℕ) : Type 0 where
  pub family : ℕ
  pub mid : Books
  pub retired : IsReleasedAs a mid 0 name (Some family)
  pub goes : CurrentGoes a mid b family

-- The lane has no handle of the name any more. The family is retired by it, or has its current as before.
abbrev pub Releases : Books → Books → List ℕ → Type 0
Releases a b name = IsReleasedAs a b 0 name None ⊎ Retires a b name
