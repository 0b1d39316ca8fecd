use Rattle.std.proofs.Common.{ap, arith}
use Rattle.sv_model.specs.Lists.{at}
use Rattle.sv_slots.proofs.CarriedByCalls.{carries_taken, lane_stands, seated}
use Rattle.sv_slots.proofs.CarriedBySteps.{carries_few, carry}
use Rattle.sv_slots.proofs.ToldCounts.{tells_stand, told_of}
use Rattle.sv_slots.proofs.table.Core.borrow_locked.Goals as goal

pub insert-requires : goal.insert-requires
insert-requires g c =
    let s = c.args.seat.now in (omega arith, (omega arith, carries_few s.seat.me.0 s.seat.me.1 s.out.items s.carried))

pub invariant_of-seat : goal.invariant_of-seat
invariant_of-seat g c =
    let s = c.args.seat.now in let v = s.seat.me.0 in let n = c.borrow_locked_at.new.seat.me in
    let e = c.borrow_locked_at.ensures in
    record {
      is_lane = lane_stands v n.0 s.lane (ap seated e.view) s.is_lane;
      tells = tells_stand v n.0 s.counts (ap told_of e.view) s.tells;
      carried = carries_taken v n.0 s.seat.me.1 n.1 s.out.items c.args.family c.family.inside.0 s.lane s.carried s.is_lane
          c.family.view_is c.requires.family c.slot_home_of.result c.args.fresh.pack
          (at 0 v.known.seen c.family.inside.0) c.insert.new.self.items c.requires.free.0 (ap carry e.view) e.carried
          c.slot_home_of.ensures c.insert.ensures.items;
    }
