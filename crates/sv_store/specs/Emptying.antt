-- The active memtable of a family is emptied before a flush.
use Rattle.std.specs.Prelude.{◌≡◌, ◌⊎◌, ◌<◌, nat_lt, ℕ, Bool, true, false, List, [], ◌∷◌, Option, Some, None, length, slice_get}
use Rattle.sv_model.specs.declared.records.MemtableList.{MemtableList}
use Rattle.sv_model.specs.declared.records.SuperVersion.{SuperVersion}
use Rattle.sv_model.specs.Books.{Books}
use Rattle.sv_model.specs.Cells.{Cell}
use Rattle.sv_model.specs.Journal.{borne_by}
use Rattle.sv_model.specs.Refusals.{first_due}
use Rattle.sv_model.specs.Registers.{entry}
use Rattle.sv_cells.specs.Calls.{memtables_refusal}
use Rattle.sv_files.specs.Calls.{capture_refusal}
use Rattle.sv_laws.specs.Installs.{IsOpen}
use Rattle.sv_registry.specs.Calls.{make_refusal}
use Rattle.sv_state.specs.Capturing.{CanBegin}
use Rattle.sv_state.specs.Planning.{IsCellIf}
use Rattle.sv_store.specs.Standing.{Stands}
use Rattle.sv_store.specs.Writing.{Switches}

abbrev pub rows_at : Books → SuperVersion → ℕ
rows_at b it = length (borne_by it.descriptor.active b.journal)

abbrev pub SwitchesIf : Bool → ℕ → Books → Books → Type 0
SwitchesIf true family a b = Switches family a b
SwitchesIf false family a b = b ≡ a

-- The family has switched where its active memtable had a row; else nothing changed.
pub record Empties (a b : Books) (family : ℕ) : Type 0 where
  pub serial : ℕ
  pub it : SuperVersion
  pub is_open : IsOpen a family serial it
  pub switched : SwitchesIf (nat_lt 0 (rows_at a it)) family a b

-- The family has rows that are in no file: in its active memtable, which is then in this cell and may be frozen, or in
-- its list.
pub record CanEmpty (b : Books) (cells : List (Option Cell)) (family : ℕ) (cell : Option ℕ) : Type 0 where
  pub stands : Stands b cells None
  pub serial : ℕ
  pub it : SuperVersion
  pub is_open : IsOpen b family serial it
  pub list : MemtableList
  pub list_at : entry b.lists it.descriptor.list ≡ Some list
  pub some : (0 < rows_at b it) ⊎ (0 < length list.members)
  pub idle : slice_get b.files.captured family ≡ Some None
  pub numbers : capture_refusal b.files ≡ None
  pub cell_is : IsCellIf b.memtables it.descriptor.active (nat_lt 0 (rows_at b it)) cell
  pub room : nat_lt 0 (rows_at b it) ≡ true → first_due (memtables_refusal b.memtables ∷ make_refusal b.supers ∷ []) ≡ None

-- All rows of the family that are in no file are in the memtables of its list, and a number may be captured.
pub record IsEmptied (b : Books) (family : ℕ) : Type 0 where
  pub begin : CanBegin b family
  pub empty : rows_at b begin.it ≡ 0
  pub numbers : capture_refusal b.files ≡ None
