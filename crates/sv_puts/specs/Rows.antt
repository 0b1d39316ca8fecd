-- The rows of a family's active memtable, and one that a lane appends.
use Rattle.std.specs.Prelude.{[], length, ℕ, ◌++◌, ◌∷◌, ◌≡◌}
use Rattle.sv_borrows.specs.Desks.{at_desk}
use Rattle.sv_laws.specs.Installs.{IsOpen}
use Rattle.sv_laws.specs.Writes.{IsWritten}
use Rattle.sv_model.specs.Books.{Books}
use Rattle.sv_model.specs.Cells.{Cell}
use Rattle.sv_model.specs.Journal.{of_family}
use Rattle.sv_model.specs.Turns.{IsAccounted}
use Rattle.sv_model.specs.declared.records.SuperVersion.{SuperVersion}
use Rattle.sv_model.specs.declared.writes.Row.{Row}
use Rattle.sv_model.specs.declared.writes.Write.{Write}
use Rattle.sv_objects.specs.Makings.{IsCellOf}
use Rattle.sv_rule.specs.LockPlays.{raised}
use Rattle.sv_rule.specs.Views.{LaneView}
use Rattle.sv_state.specs.Seen.{StateSeen}
use Rattle.sv_state.specs.Writing.{CanWrite, write_of}

-- the memtable with one row more
abbrev pub with_row : Cell → Row → Cell
with_row k row = record k { rows = k.rows ++ row ∷ [] }

-- The family is open, and its current's active memtable is in this cell.
pub record HasActive (b : Books) (f c : ℕ) : Type 0 where
  pub serial : ℕ
  pub it : SuperVersion
  pub is_open : IsOpen b f serial it
  pub cell_is : IsCellOf b.memtables it.descriptor.active c

-- The lane may write into the family's current, whose active memtable is in this cell.
pub record CanAppend (s : StateSeen) (lane f c : ℕ) : Type 0 where
  pub can : CanWrite s lane f
  pub cell_is : IsCellOf s.books.memtables can.it.descriptor.active c

-- The lane goes on with these books, which have this write of its own, the family's write n.
abbrev pub appended : Books → ℕ → Write → ℕ → LaneView → LaneView
appended b f w n v = at_desk b [] (raised v.known.seen f n) (record v {
  known = record v.known { mine = v.known.mine ++ w ∷ [] };
})

-- The row is the last of the journal, as the lane's write n of the family, and the lane has met that number. Nothing
-- else changed.
pub record Appends (a b : Books) (f : ℕ) (row : Row) (n : ℕ) (v w : LaneView) : Type 0 where
  pub mem : ℕ
  pub written : IsWritten a b f (write_of v.known.lane f mem row)
  pub number_is : n ≡ length (of_family f b.journal)
  pub own : IsAccounted v.known.lane b v.known.task
  pub is : w ≡ appended b f (write_of v.known.lane f mem row) n v
