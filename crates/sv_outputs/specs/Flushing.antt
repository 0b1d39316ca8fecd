-- The file that a flush writes.
use Rattle.std.specs.Prelude.{◌≡◌, ◌+◌, ◌<◌, ◌≤◌, ℕ, false, List, [], ◌∷◌, ◌++◌, length}
use Rattle.std.specs.Arc.{arc_value}
use Rattle.std.specs.declared.sync.Arc.{Arc}
use Rattle.sv_model.specs.declared.writes.Write.{Write}
use Rattle.sv_model.specs.declared.writes.Row.{Row}
use Rattle.sv_model.specs.declared.writes.Kept.{Kept}
use Rattle.sv_model.specs.declared.writes.Numbered.{Numbered}
use Rattle.sv_model.specs.declared.records.FileMeta.{FileMeta}
use Rattle.sv_model.specs.declared.limits.TheConstants.{MAX_WRITES}
use Rattle.sv_model.specs.Cells.{Cell}
use Rattle.sv_model.specs.Flat.{AreCuts, IsFlatOf, range_of}
use Rattle.sv_model.specs.Journal.{of_family}
use Rattle.sv_model.specs.TableText.{HasText, table_text}

-- the rows of frozen memtables, each beside its cell, of which the first is the oldest
abbrev pub rows_in : {Z : Type 0} → List (ℕ × Arc Cell Z) → List Row
rows_in [] = []
rows_in (x ∷ xs) = (arc_value x.1).rows ++ rows_in xs

-- a row whose number is moved on
abbrev pub moved_on : ℕ → Numbered → Numbered
moved_on before n = record { number = before + n.number; row = n.row }

-- The file is to have these writes. Something may lie below it.
pub record IsFlushDue (writes : List Row) (file : FileMeta) : Type 0 where
  pub some : file.from < file.to
  pub count : file.from + length writes ≡ file.to
  pub kind : file.bottom.last ≡ false
  pub cuts : AreCuts file.from file.to file.bottom.cuts
  pub few : file.to ≤ MAX_WRITES

-- The bytes are the text of the file's table: of each key and each interval between the cuts the newest of the writes.
pub record IsFlushText (writes : List Row) (file : FileMeta) (bytes : List ℕ) : Type 0 where
  pub rows : List Kept
  pub flat : IsFlatOf file.from file.to file.bottom writes rows
  pub table : HasText file.from file.to file.bottom rows
  pub is : bytes ≡ table_text file.from file.to file.bottom rows

-- These are the writes `from + 1` to `to` of the family.
pub record AreWritesOf (journal : List Write) (family : ℕ) (file : FileMeta) (writes : List Row) : Type 0 where
  pub within : file.to ≤ length (of_family family journal)
  pub are : writes ≡ range_of journal family file.from file.to
