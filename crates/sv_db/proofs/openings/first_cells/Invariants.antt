use Rattle.std.proofs.Common.{length, ◌-◌, ◌≤◌}
use Rattle.sv_db.proofs.OpenedBooks.{AreFirst}
use Rattle.sv_db.proofs.openings.first_cells.Given as goal

abbrev pub invariant-loop-cells : goal.invariant-loop-cells
invariant-loop-cells l = (1 ≤ length l.cells.items) × (length l.cells.items ≤ 64) × AreFirst l.cells.items

abbrev pub decreases-loop-cells : goal.decreases-loop-cells
decreases-loop-cells l = 64 - length l.cells.items
