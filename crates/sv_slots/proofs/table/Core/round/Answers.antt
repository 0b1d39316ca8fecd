use Rattle.std.proofs.Common.{ap}
use Rattle.sv_rule.specs.Tasks.{some_count}
use Rattle.sv_slots.proofs.CarriedByCalls.{beside, carries_desk, lane_stands, seated}
use Rattle.sv_slots.proofs.ToldCounts.{tells_stand, told_of}
use Rattle.sv_slots.proofs.table.Core.round.Goals as goal

pub invariant_of-seat : goal.invariant_of-seat
invariant_of-seat g c =
    let s = c.args.seat.now in let m = s.seat.me in let n = c.frame_step.new.seat.me in
    let e = c.frame_step.ensures.framed in
    record {
      is_lane = lane_stands m.0 n.0 s.lane (ap (λ z. seated z.0) e) s.is_lane;
      tells = tells_stand m.0 n.0 s.counts (ap (λ z. told_of z.0) e) s.tells;
      carried = carries_desk m.0 n.0 m.1 n.1 s.out.items s.carried (ap (λ z. some_count z.0.locks.db) e)
          (ap (λ z. beside z.0) e) (ap (λ z. z.1) e);
    }
