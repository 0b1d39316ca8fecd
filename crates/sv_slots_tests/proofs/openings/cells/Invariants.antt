use Rattle.std.proofs.Common.{length, ◌≡◌}
use Rattle.sv_slots_tests.proofs.Cells.{AreNumbered}
use Rattle.sv_slots_tests.proofs.openings.cells.Given as goal

abbrev pub invariant-loop-number : goal.invariant-loop-number
invariant-loop-number l = (length l.cells.items ≡ l.number) × AreNumbered l.cells.items
