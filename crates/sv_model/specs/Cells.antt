-- A memtable: which one it is, and its rows in the order in which they were added.
use Rattle.std.specs.Prelude.{ℕ, List}
use Rattle.sv_model.specs.declared.writes.Row.{Row}

pub record Cell : Type 0 where
  pub id : ℕ
  pub rows : List Row
