-- What contracts see of the state.
use Rattle.std.specs.Prelude.{ℕ}
use Rattle.sv_model.specs.Books.{Books}

pub record StateSeen : Type 0 where
  pub books : Books
  -- for how many more writes the journal has room
  pub spare : ℕ
