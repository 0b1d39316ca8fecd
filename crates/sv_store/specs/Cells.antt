-- What each cell holds.
use Rattle.std.specs.Prelude.{◌≡◌, ◌++◌, ◌∷◌, ℕ, true, List, [], Option, Some, None, length, slice_get, slice_set}
use Rattle.sv_model.specs.declared.writes.Write.{Write}
use Rattle.sv_model.specs.declared.writes.Op.{Op}
use Rattle.sv_model.specs.declared.records.Memtable.{Memtable}
use Rattle.sv_model.specs.Cells.{Cell}
use Rattle.sv_model.specs.Journal.{borne_by, rows_of}
use Rattle.sv_model.specs.Lists.{In}
use Rattle.sv_model.specs.Registers.{entry, EachEntry}

-- the cell is no Live memtable's
abbrev pub IsVacant : List Memtable → ℕ → Type 0
IsVacant memtables cell = EachEntry (λ n x. x.live ≡ true → x.cell ≡ cell → ⊥) memtables

-- the cell is that of this Live memtable, with exactly its rows of the journal
pub record IsInCell (journal : List Write) (memtables : List Memtable) (cell : ℕ) (x : Cell) : Type 0 where
  pub it : Memtable
  pub at : entry memtables x.id ≡ Some it
  pub live : it.live ≡ true
  pub cell_is : it.cell ≡ cell
  pub rows : x.rows ≡ rows_of (borne_by x.id journal)

abbrev pub HoldsAt : List Write → List Memtable → ℕ → Option Cell → Type 0
HoldsAt journal memtables cell None = IsVacant memtables cell
HoldsAt journal memtables cell (Some x) = IsInCell journal memtables cell x

-- Each of the 64 cells is vacant where it is no Live memtable's, and else holds it with its rows.
pub record CellsHold (journal : List Write) (memtables : List Memtable) (cells : List (Option Cell)) : Type 0 where
  pub many : length cells ≡ 64
  pub each : (c : ℕ) (x : Option Cell) → slice_get cells c ≡ Some x → HoldsAt journal memtables c x

-- ---- what changes

-- the memtable with one row more
abbrev pub with_row : Cell → List ℕ → Op → Cell
with_row x key op = record x { rows = x.rows ++ record { key = key; op = op } ∷ [] }

-- the cells with a new memtable, without rows, in this one
abbrev pub filled : List (Option Cell) → Option (ℕ × ℕ) → List (Option Cell)
filled cells None = cells
filled cells (Some (cell, mem)) = slice_set cells cell (Some (record { id = mem; rows = [] }))

-- Just these cells are vacant now, and the others are as they were.
pub record Vacated (gone : List ℕ) (old new : List (Option Cell)) : Type 0 where
  pub many : length new ≡ length old
  pub vacant : (c : ℕ) (x : Option Cell) → In c gone → slice_get new c ≡ Some x → x ≡ None
  pub others : (c : ℕ) → (In c gone → ⊥) → slice_get new c ≡ slice_get old c
