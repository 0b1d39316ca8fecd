use Rattle.std.proofs.Common.{vec_capacity, ◌≡◌, ◌≤◌}
use Rattle.sv_rule.specs.Blanks.{new_view}
use Rattle.sv_slots.specs.Openings.{AreOthers}
use Rattle.sv_slots.proofs.table.Core.seat_lanes.Given as goal

abbrev pub invariant-loop-lane : goal.invariant-loop-lane
invariant-loop-lane g l =
    let start = l.initial.first.seat.me.0.known.start in
    (l.first.seat.table_id ≡ l.initial.first.seat.table_id) × (l.first.lane ≡ 0)
    × (l.first.seat.me.0 ≡ new_view 0 l.lanes l.lane start) × (vec_capacity l.seats ≡ vec_capacity l.initial.seats) × (l.lane ≤ l.lanes)
    × AreOthers l.initial.first.seat.table_id l.lanes l.lane start l.seats.items
