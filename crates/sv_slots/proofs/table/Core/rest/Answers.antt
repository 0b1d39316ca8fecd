use Rattle.sv_slots.proofs.CarriedByCalls.{carries_away, lane_stands, rested_parts}
use Rattle.sv_slots.proofs.ToldCounts.{tells_rest}
use Rattle.sv_slots.proofs.table.Core.rest.Goals as goal

pub invariant_of-seat : goal.invariant_of-seat
invariant_of-seat g c =
    let s = c.args.seat.now in let v = s.seat.me.0 in let n = c.rest_at.new.seat.me in
    let e = rested_parts g.P.Parts.body c.family.inside.0 c.rest_at.result v n.0 c.rest_at.ensures.rested in
    record {
      is_lane = lane_stands v n.0 s.lane e.0 s.is_lane;
      tells = tells_rest g.P.Parts.body c.family.inside.0 c.rest_at.result v n.0 s.counts c.rest_at.ensures.rested s.tells;
      carried = carries_away v n.0 s.seat.me.1 n.1 s.out.items c.args.family c.family.inside.0 s.lane s.carried s.is_lane
          c.family.view_is c.requires.family c.requires.free e c.rest_at.ensures.carried;
    }
