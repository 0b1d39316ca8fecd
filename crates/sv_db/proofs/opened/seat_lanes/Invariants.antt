use Rattle.std.proofs.Common.{length, map, vec_capacity, ◌++◌, ◌≡◌, ◌≤◌}
use Rattle.sv_db.specs.Opening.{AreFirst}
use Rattle.sv_db.proofs.opened.seat_lanes.Given as goal

abbrev pub invariant-loop-lane : goal.invariant-loop-lane
invariant-loop-lane g l =
    (map (λ x. x.seat) l.locals.items ++ l.seats.items ≡ l.initial.seats.items)
    × AreFirst (map (λ x. (x.lane, x.handles, x.pins)) l.locals.items)
    × (length l.locals.items ≡ l.lane)
    × (vec_capacity l.initial.locals ≤ vec_capacity l.locals)
