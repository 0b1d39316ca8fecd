use Rattle.std.proofs.Common.{◌≡◌, take}
use Rattle.sv_objects.specs.Shown.{shown}
use Rattle.sv_objects.proofs.bodies.copies.Given as goal

abbrev pub invariant-loop-cell : goal.invariant-loop-cell
invariant-loop-cell l = shown l.copies.items ≡ shown (take l.cell-index l.frozen)
