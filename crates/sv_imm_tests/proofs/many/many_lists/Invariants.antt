use Rattle.std.proofs.Common.{◌≤◌, length}
use Rattle.sv_imm_tests.proofs.many.many_lists.Given as goal

abbrev pub invariant-loop-i : goal.invariant-loop-i
invariant-loop-i l = length l.lists ≤ l._i
