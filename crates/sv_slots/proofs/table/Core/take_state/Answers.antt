use Rattle.std.proofs.Common.{ap, arith}
use Rattle.sv_slots.proofs.CarriedByCalls.{lane_stands, seated}
use Rattle.sv_slots.proofs.CarriedBySteps.{carries_few}
use Rattle.sv_slots.proofs.CarriedByLocks.{takes_state}
use Rattle.sv_slots.proofs.ToldCounts.{tells_stand, told_of}
use Rattle.sv_slots.proofs.table.Core.take_state.Goals as goal

pub insert-requires : goal.insert-requires
insert-requires g c =
    let s = c.args.seat.now in (omega arith, (omega arith, carries_few s.seat.me.0 s.seat.me.1 s.out.items s.carried))

pub invariant_of-seat : goal.invariant_of-seat
invariant_of-seat g c =
    let s = c.args.seat.now in let v = s.seat.me.0 in let n = c.take_state_at-state.new.seat.me in
    let e = c.take_state_at-state.ensures.took in
    record {
      is_lane = lane_stands v n.0 s.lane (ap (λ z. seated z.0) e) s.is_lane;
      tells = tells_stand v n.0 s.counts (ap (λ z. told_of z.0) e) s.tells;
      carried = takes_state v n.0 s.seat.me.1 n.1 s.out.items c.insert.new.self.items s.carried (g.P.Parts.books c.take_state_at-state.result) (ap (λ z. z.0) e)
          c.requires.free (ap (λ z. z.1) e) c.insert.ensures.items;
    }
