use Rattle.std.proofs.Common.{◌≤◌}
use Rattle.sv_rests.specs.Resting.{RestsTo}
use Rattle.sv_slots.specs.Known.{IsSameSeat, view_of}
use Rattle.sv_rests.proofs.rests.rest_all.Given as goal

abbrev pub invariant-loop-number : goal.invariant-loop-number
invariant-loop-number g l =
    IsSameSeat l.initial.seat l.seat × RestsTo l.number l.count (view_of l.initial.seat) (view_of l.seat)
    × (l.count ≤ l.number)
