-- What contracts see of the store.
use Rattle.std.specs.Prelude.{List, Option}
use Rattle.sv_model.specs.Books.{Books}
use Rattle.sv_model.specs.Cells.{Cell}

pub record StoreSeen : Type 0 where
  pub books : Books
  -- by cell, its memtable, or none where it is vacant
  pub cells : List (Option Cell)
