-- A family switches to a new memtable.
use Rattle.std.specs.Prelude.{[], length, ℕ, ◌<◌, ◌≡◌}
use Rattle.sv_installs.specs.Installing.{Installs}
use Rattle.sv_laws.specs.NewCurrents.{IsSwitched}
use Rattle.sv_model.specs.Books.{Books}
use Rattle.sv_model.specs.Journal.{borne_by}
use Rattle.sv_puts.specs.Rows.{HasActive}
use Rattle.sv_rule.specs.Views.{LaneView}

-- the family's active memtable is in this cell, and has a row
pub record CanSwitchIn (b : Books) (f c : ℕ) : Type 0 where
  pub active : HasActive b f c
  pub row : 0 < length (borne_by active.it.descriptor.active b.journal)

-- the family's active memtable, which has no row, is in this cell
pub record IsEmptyIn (b : Books) (f c : ℕ) : Type 0 where
  pub active : HasActive b f c
  pub none : borne_by active.it.descriptor.active b.journal ≡ []

-- The family has switched, by an install, and its active memtable, which has no row, is in this cell.
pub record SwitchesTo (a b : Books) (f : ℕ) (v w : LaneView) (c : ℕ) : Type 0 where
  pub made : Books
  pub switched : IsSwitched a made f
  pub installs : Installs f made b v w
  pub empty : IsEmptyIn b f c
