-- When a family's active memtable may be frozen.
use Rattle.std.specs.Prelude.{◌<◌, ℕ, length}
use Rattle.sv_model.specs.declared.records.SuperVersion.{SuperVersion}
use Rattle.sv_model.specs.Books.{Books}
use Rattle.sv_model.specs.Journal.{borne_by}
use Rattle.sv_laws.specs.Installs.{IsOpen}

-- The family is not dropped, and the active memtable of its current has a row.
pub record HasRow (b : Books) (family : ℕ) : Type 0 where
  pub serial : ℕ
  pub it : SuperVersion
  pub is_open : IsOpen b family serial it
  pub row : 0 < length (borne_by it.descriptor.active b.journal)
