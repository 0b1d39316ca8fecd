use Rattle.sv_installs.proofs.Passing.{PassesTo}
use Rattle.sv_slots.specs.Known.{IsSameSeat, view_of}
use Rattle.sv_installs.proofs.sweeps.sweep_all.Given as goal

abbrev pub invariant-loop-lane : goal.invariant-loop-lane
invariant-loop-lane g l = IsSameSeat l.initial.seat l.seat × PassesTo l.family (view_of l.initial.seat) l.lane (view_of l.seat)
