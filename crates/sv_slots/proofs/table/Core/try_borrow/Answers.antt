use Rattle.std.proofs.Common.{ap, arith, false, true}
use Rattle.sv_model.specs.Lists.{at}
use Rattle.sv_slots.proofs.CarriedByCalls.{carries_away, carries_taken, lane_stands, missed_parts, seated}
use Rattle.sv_slots.proofs.CarriedBySteps.{carries_few, carry}
use Rattle.sv_slots.proofs.ToldCounts.{tells_miss, tells_more, told_of}
use Rattle.sv_slots.proofs.table.Core.try_borrow.Goals as goal

pub insert-requires : goal.insert-requires
insert-requires g c =
    let s = c.args.seat.now in (omega arith, (omega arith, carries_few s.seat.me.0 s.seat.me.1 s.out.items s.carried))

pub invariant_of-seat : goal.invariant_of-seat
invariant_of-seat g c =
    let s = c.args.seat.now in let v = s.seat.me.0 in let n = c.borrow_at.new.seat.me in
    let ok = c.in-Ok.ensures.ok in
    record {
      is_lane = lane_stands v n.0 s.lane (ap seated ok.0.view) s.is_lane;
      tells = tells_more true false false s.counts c.hit.new.self v n.0 c.hit.ensures (ap told_of ok.0.view) s.tells;
      carried = carries_taken v n.0 s.seat.me.1 n.1 s.out.items c.args.family c.family.inside.0 s.lane s.carried s.is_lane
          c.family.view_is c.requires.family c.slot_home_of.result c.in-Ok.sv.pack
          (at 0 v.known.seen c.family.inside.0) c.insert.new.self.items c.requires.free (ap carry ok.0.view) ok.1
          c.slot_home_of.ensures c.insert.ensures.items;
    }

pub invariant_of-seat-in-Err : goal.invariant_of-seat-in-Err
invariant_of-seat-in-Err g c =
    let s = c.args.seat.now in let v = s.seat.me.0 in let n = c.borrow_at.new.seat.me in
    let err = c.in-Err.ensures.err in
    let e = missed_parts g.P.Parts.body c.family.inside.0 c.in-Err.miss v n.0 err.0 in
    record {
      is_lane = lane_stands v n.0 s.lane e.0 s.is_lane;
      tells = tells_miss g.P.Parts.body c.family.inside.0 c.in-Err.miss v n.0 s.counts c.missed.new.self err.0
          c.missed.ensures s.tells;
      carried = carries_away v n.0 s.seat.me.1 n.1 s.out.items c.args.family c.family.inside.0 s.lane s.carried s.is_lane
          c.family.view_is c.requires.family c.requires.free e err.1;
    }
