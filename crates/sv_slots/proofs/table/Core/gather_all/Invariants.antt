use Rattle.std.proofs.Common.{vec_len, ◌≡◌}
use Rattle.sv_model.specs.Lists.{Every}
use Rattle.sv_rule.specs.SeatPlays.{IsIdle}
use Rattle.sv_slots.specs.Closings.{gathered_by, views_of}
use Rattle.sv_slots.proofs.table.Core.gather_all.Given as goal

abbrev pub invariant-loop-other : goal.invariant-loop-other
invariant-loop-other g l =
    (l.first.seat.table_id ≡ l.initial.first.seat.table_id)
    × (gathered_by l.first.seat.me.0 (views_of l.seats.items) ≡ gathered_by l.initial.first.seat.me.0 (views_of l.initial.seats.items))
    × Every (λ s. s.seat.table_id ≡ l.initial.first.seat.table_id) l.seats.items
    × Every IsIdle (views_of l.seats.items)

abbrev pub decreases-loop-other : goal.decreases-loop-other
decreases-loop-other g l = vec_len l.seats
