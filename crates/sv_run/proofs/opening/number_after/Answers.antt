-- A number that a name has is small.
use Rattle.std.proofs.Common.{arith, sym}
use Rattle.sv_run.proofs.Numbering.{number_small}
use Rattle.sv_run.proofs.opening.number_after.Goals as goal

pub overflow_add-result : goal.overflow_add-result
overflow_add-result c = omega (arith, number_small c.args.name.now c.in-Some.number (sym c.in-Some.ensures.number), c.number.view_is)
