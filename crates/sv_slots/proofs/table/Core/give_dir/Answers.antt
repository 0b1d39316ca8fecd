use Rattle.std.proofs.Common.{ap, subst, sym, ◌∙◌}
use Rattle.sv_rule.specs.LockPlays.{MayGiveDir}
use Rattle.sv_rule.specs.Views.{LaneView}
use Rattle.sv_slots.proofs.CarriedByCalls.{lane_stands, seated}
use Rattle.sv_slots.proofs.CarriedByLocks.{gives_dir, has_dir}
use Rattle.sv_slots.proofs.ToldCounts.{tells_stand, told_of}
use Rattle.sv_slots.proofs.table.Core.give_dir.Goals as goal

pub bring-requires : goal.bring-requires
bring-requires g c = let s = c.args.seat.now in has_dir s.seat.me.0 s.seat.me.1 s.out.items s.carried c.requires.lock.found c.requires.lock.has

pub give_dir_at-requires-clause-lock : goal.give_dir_at-requires-clause-lock
give_dir_at-requires-clause-lock g c = subst (λ (z : LaneView). MayGiveDir z (g.P.Parts.disk c.args.dir) g.J.Reports.task g.J.Reports.reads g.J.Reports.names g.J.Reports.lists g.J.Reports.rise) (sym c.bring.ensures.same.2) c.requires.lock

pub invariant_of-seat : goal.invariant_of-seat
invariant_of-seat g c =
    let s = c.bring.new.self in let v = s.seat.me.0 in let n = c.give_dir_at.new.seat.me in
    let e = c.give_dir_at.ensures.gave in
    let was = c.bring.ensures.same.2 in
    record {
      is_lane = lane_stands v n.0 s.lane (ap (λ z. seated z.0) e) s.is_lane;
      tells = tells_stand v n.0 s.counts (ap (λ z. told_of z.0) e) s.tells;
      carried = gives_dir v n.0 s.seat.me.1 n.1 s.out.items c.remove.new.self.items s.carried g.J.Reports.task g.J.Reports.reads g.J.Reports.names g.J.Reports.lists g.J.Reports.rise c.requires.lock.found (ap (λ z. z.0) e)
          (ap (λ (z : LaneView). z.locks.dir) was ∙ c.requires.lock.has) c.bring.ensures.first (ap (λ z. z.1) e) c.remove.ensures.items;
    }
