-- When a write and a switch may be made, and what they give.
use Rattle.std.specs.Prelude.{◌≡◌, ◌<◌, ◌+◌, ◌*◌, ℕ, Some, length, slice_get}
use Rattle.sv_model.specs.declared.writes.Write.{Write}
use Rattle.sv_model.specs.declared.writes.Row.{Row}
use Rattle.sv_model.specs.declared.records.SuperVersion.{SuperVersion}
use Rattle.sv_model.specs.declared.records.Memtable.{Memtable}
use Rattle.sv_model.specs.declared.records.Top.{Top}
use Rattle.sv_model.specs.Books.{Books}
use Rattle.sv_model.specs.Cells.{Cell}
use Rattle.sv_model.specs.Journal.{borne_by, rows_of}
use Rattle.sv_model.specs.Registers.{entry}
use Rattle.sv_laws.specs.Installs.{IsOpen}
use Rattle.sv_state.specs.declared.installs.Install.{Install}
use Rattle.sv_state.specs.Refs.{IsKept}
use Rattle.sv_state.specs.Seen.{StateSeen}
use Rattle.sv_model.specs.declared.limits.TheConstants.{MAX_ROWS, MAX_WRITES}

abbrev pub write_of : ℕ → ℕ → ℕ → Row → Write
write_of lane family mem row = record { family = family; key = row.key; op = row.op; mem = mem; lane = lane }

-- The lane may write into the family's current: there is room in the journal, and in the active memtable.
pub record CanWrite (s : StateSeen) (lane family : ℕ) : Type 0 where
  pub lane_is : lane < 32
  pub room : 0 < s.spare
  pub few : length s.books.journal < MAX_WRITES
  pub serial : ℕ
  pub it : SuperVersion
  pub is_open : IsOpen s.books family serial it
  pub few_rows : length (borne_by it.descriptor.active s.books.journal) < MAX_ROWS

-- The active memtable of the family's current has a row, and these are its rows.
pub record CanSwitch (b : Books) (family : ℕ) (frozen : Cell) : Type 0 where
  pub serial : ℕ
  pub it : SuperVersion
  pub is_open : IsOpen b family serial it
  pub row : 0 < length (borne_by it.descriptor.active b.journal)
  pub frozen_is : frozen ≡ record { id = it.descriptor.active; rows = rows_of (borne_by it.descriptor.active b.journal) }

-- The install tells the new current's pack, and has the reference of the current before.
pub record Tells (a b : Books) (family : ℕ) (install : Install) : Type 0 where
  pub family_is : install.family ≡ family
  pub it : SuperVersion
  pub at : entry b.supers (length a.supers + 1) ≡ Some it
  pub new_is : install.new ≡ (length a.supers + 1) * 256 + it.place
  pub old : (t : Top) → slice_get a.tops family ≡ Some t → IsKept a t.current install.old

-- The cell is for the new memtable.
pub record TellsSwitch (a b : Books) (family : ℕ) (install : Install) : Type 0 where
  pub tells : Tells a b family install
  pub memtable : Memtable
  pub memtable_at : entry b.memtables (length a.memtables + 1) ≡ Some memtable
  pub vacant : install.vacant ≡ Some (memtable.cell, length a.memtables + 1)
