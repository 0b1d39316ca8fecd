-- What the views have in hand, counted.
use Rattle.std.specs.Prelude.{◌==◌, ◌+◌, ℕ, Bool, cond, List, [], Option, None, Some, slice_get, option_map, map, length}
use Rattle.sv_model.specs.declared.records.Family.{Family}
use Rattle.sv_model.specs.declared.records.Snapshot.{Snapshot}
use Rattle.sv_model.specs.Lists.{total, same, times, bit, at}
use Rattle.sv_model.specs.Registers.{entry}
use Rattle.sv_model.specs.Tasks.{Task, Output, Mark}
use Rattle.sv_rule.specs.Views.{CellHeld, Known, LaneView}

-- ---- of a view, and of those joined into it

-- how often the lane itself or a joined one made the number Gone, and the snapshot
abbrev pub removals : ℕ → LaneView → ℕ
removals n v = times n v.known.task.removed + total (λ o. times n o.known.task.removed) v.joined

abbrev pub endings : ℕ → LaneView → ℕ
endings n v = times n v.known.task.ended + total (λ o. times n o.known.task.ended) v.joined

abbrev pub faults : LaneView → ℕ
faults v = v.counts.faults + total (λ o. o.counts.faults) v.joined

abbrev pub all_adds : LaneView → ℕ
all_adds v = v.counts.adds + total (λ o. o.counts.adds) v.joined

abbrev pub own_lane : ℕ → Bool → Known → ℕ
own_lane l spent k = cond spent 0 (same l k.lane)

-- how often the lane is the view's, or joined into it
abbrev pub lanes : ℕ → LaneView → ℕ
lanes l v = own_lane l v.seat.spent v.known + total (λ o. same l o.known.lane) v.joined

abbrev pub holds_of : ℕ → LaneView → ℕ
holds_of l v = cond (v.known.lane == l) v.known.task.holds 0

abbrev pub handles_of : ℕ → ℕ → LaneView → ℕ
handles_of l f v = cond (v.known.lane == l) (times f v.known.task.handles) 0

abbrev pub is_spent : LaneView → ℕ
is_spent v = cond v.seat.spent 1 0

abbrev pub joined_count : LaneView → ℕ
joined_count v = length v.joined

-- ---- locks

abbrev pub some_count : {A : Type 0} → Option A → ℕ
some_count None = 0
some_count (Some x) = 1

abbrev pub has_db : LaneView → ℕ
has_db v = some_count v.locks.db

abbrev pub has_dir : LaneView → ℕ
has_dir v = some_count v.locks.dir

abbrev pub cell_count : ℕ → Option CellHeld → ℕ
cell_count c None = 0
cell_count c (Some h) = same c h.number

abbrev pub has_cell : ℕ → LaneView → ℕ
has_cell c v = cell_count c v.locks.cell

-- the cells that the lane with the DB lock is to make vacant
abbrev pub due_of : LaneView → Option (List ℕ)
due_of v = option_map (λ d. d.due) v.locks.db

abbrev pub due_count : ℕ → Option (List ℕ) → ℕ
due_count c None = 0
due_count c (Some due) = times c due

-- how often the cell is due
abbrev pub dues : ℕ → LaneView → ℕ
dues c v = due_count c (due_of v)

abbrev pub fill_count : ℕ → Option (List ℕ) → Option CellHeld → ℕ
fill_count c None h = 0
fill_count c (Some due) None = 0
fill_count c (Some due) (Some h) = same c h.number

-- whether the lane that has the DB lock has the lock of the cell too
abbrev pub fills : ℕ → LaneView → ℕ
fills c v = fill_count c (due_of v) v.locks.cell
