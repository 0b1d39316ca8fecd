use Rattle.std.proofs.Common.{◌≡◌, replicate, None}
use Rattle.sv_store.proofs.cells.Cells.new.Given as goal

abbrev pub invariant-loop-done : goal.invariant-loop-done
invariant-loop-done l = l.cells.items ≡ replicate l.done None
