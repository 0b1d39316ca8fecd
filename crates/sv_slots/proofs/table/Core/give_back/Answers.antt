use Rattle.std.proofs.Common.{Bool, ap, false, subst, sym, ℕ, ◌<◌, ◌∙◌, length}
use Rattle.sv_rule.specs.Table.{slot_home, slot_of, spot}
use Rattle.sv_rule.specs.Views.{LaneView}
use Rattle.sv_slots.specs.Carried.{ahead}
use Rattle.sv_slots.proofs.CarriedByCalls.{back_parts, carries_given, lane_stands}
use Rattle.sv_slots.proofs.CarriedBySteps.{carries_lent}
use Rattle.sv_slots.proofs.ToldCounts.{tells_back}
use Rattle.sv_slots.specs.Counters.{Rises}
use Rattle.sv_slots.proofs.table.Core.give_back.Goals as goal

pub bring-requires : goal.bring-requires
bring-requires g c =
    let s = c.args.seat.now in let v = s.seat.me.0 in
    let has = c.requires.lent in
    let e = c.slot_home_of.ensures in
    subst (λ (z : ℕ). ahead z s.out.items < length s.out.items) (sym e)
    (carries_lent v s.seat.me.1 s.out.items s.carried c.family.inside.0 s.lane c.args.borrow.sv.pack has.0
    s.is_lane.lane_is (ap (slot_of v) c.family.view_is ∙ has.1))

pub invariant_of-seat : goal.invariant_of-seat
invariant_of-seat g c =
    let s = c.bring.new.self in let v = s.seat.me.0 in let n = c.give_back_at-back.new.seat.me in
    let was = c.args.seat.now in
    let has = c.requires.lent in
    let e = back_parts g.P.Parts.body c.family.inside.0 c.args.borrow.sv c.give_back_at-back.result v n.0
    c.give_back_at-back.ensures.given in
    let at_slot = c.slot_home_of.ensures
    ∙ ap (λ z. slot_home (spot z c.family.inside.0)) (sym c.bring.ensures.same.3) in
    record {
      is_lane = lane_stands v n.0 s.lane e.0 s.is_lane;
      tells = tells_back g.P.Parts.body c.family.inside.0 c.args.borrow.sv c.give_back_at-back.result v n.0 s.counts
          c.given_back.new.self c.give_back_at-back.ensures.given
          (subst (λ (k : Bool). Rises false false k s.counts c.given_back.new.self) c.is_swept.ensures c.given_back.ensures) s.tells;
      carried = carries_given v n.0 s.seat.me.1 n.1 s.out.items c.args.borrow.family c.family.inside.0 s.lane s.carried
          s.is_lane c.family.view_is c.requires.family.0 c.slot_home_of.result c.args.borrow.sv.pack has.0
          c.remove.new.self.items
          (ap (λ (z : LaneView). slot_of z c.args.borrow.family) c.bring.ensures.same.2 ∙ has.1) e at_slot
          c.bring.ensures.first c.give_back_at-back.ensures.carried c.remove.ensures.items;
    }
