-- Which files and tables can be merged, and the text of their merge.
use Rattle.std.specs.Prelude.{◌≡◌, ◌<◌, ◌≤◌, ℕ, true, false, List, length, drop, Some, slice_get}
use Rattle.sv_model.specs.declared.writes.Write.{Write}
use Rattle.sv_model.specs.declared.writes.Kept.{Kept}
use Rattle.sv_model.specs.declared.records.FileMeta.{FileMeta}
use Rattle.sv_model.specs.declared.limits.TheConstants.{MAX_WRITES}
use Rattle.sv_model.specs.declared.tables.Table.{Table}
use Rattle.sv_model.specs.Flat.{AreCuts, IsFlat}
use Rattle.sv_model.specs.Lists.{Every}
use Rattle.sv_model.specs.Ranges.{FilesJoin}
use Rattle.sv_model.specs.Snapshots.{IsClear}
use Rattle.sv_model.specs.TableText.{HasText, table_text}
use Rattle.sv_merge.specs.Merging.{AreFlats, AreWellFormed, EachClear, IsMergeOf, Joined, NoneLast}

-- The file is to have what the files have: their ranges join, nothing lies below none but the first, and each cut of
-- the file is one of those of the file in which it lies. Nothing lies below it.
pub record IsMergeDue (files : List FileMeta) (file : FileMeta) : Type 0 where
  pub some : 1 ≤ length files
  pub joins : FilesJoin file.from files file.to
  pub above : (i : ℕ) (f : FileMeta) → slice_get files i ≡ Some f → 0 < i → f.bottom.last ≡ false
  pub kind : file.bottom.last ≡ true
  pub cuts : AreCuts file.from file.to file.bottom.cuts
  pub clear : Every (λ f. Every (λ cut. IsClear cut f) file.bottom.cuts) files
  pub few : file.to ≤ MAX_WRITES

-- the same of the tables that the files hold
pub record AreMergeable (tables : List Table) (file : FileMeta) : Type 0 where
  pub some : 1 ≤ length tables
  pub joined : Joined file.from tables file.to
  pub above : NoneLast (drop 1 tables)
  pub kind : file.bottom.last ≡ true
  pub cuts : AreCuts file.from file.to file.bottom.cuts
  pub clear : EachClear file.bottom.cuts tables
  pub well : AreWellFormed tables
  pub few : file.to ≤ MAX_WRITES

-- The bytes are the text of the merge of the tables. Of flats it is the flat of the whole range.
pub record IsMergeText (tables : List Table) (file : FileMeta) (bytes : List ℕ) : Type 0 where
  pub rows : List Kept
  pub merge : IsMergeOf tables file.to file.bottom rows
  pub flat : (journal : List Write) (family : ℕ) → AreFlats journal family tables → IsFlat journal family file.from file.to file.bottom rows
  pub table : HasText file.from file.to file.bottom rows
  pub is : bytes ≡ table_text file.from file.to file.bottom rows
