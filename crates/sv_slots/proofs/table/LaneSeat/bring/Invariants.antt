use Rattle.std.proofs.Common.{length, ◌<◌, ◌≡◌}
use Rattle.sv_slots.specs.Carried.{ahead}
use Rattle.sv_slots.proofs.table.LaneSeat.bring.Given as goal

abbrev pub invariant-loop-self : goal.invariant-loop-self
invariant-loop-self g l =
    (l.self.seat.table_id ≡ l.initial.self.seat.table_id) × (l.self.seat.id ≡ l.initial.self.seat.id)
    × (l.self.seat.me.0 ≡ l.initial.self.seat.me.0) × (l.self.lane ≡ l.initial.self.lane)
    × (ahead l.slot l.self.out.items < length l.self.out.items)

abbrev pub decreases-loop-self : goal.decreases-loop-self
decreases-loop-self g l = ahead l.slot l.self.out.items
