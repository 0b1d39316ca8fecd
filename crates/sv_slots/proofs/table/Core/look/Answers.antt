use Rattle.std.proofs.Common.{None, Some, ap, arith, refl, subst, ℕ, ◌<◌, ◌∙◌}
use Rattle.sv_rule.specs.Sums.{put}
use Rattle.sv_model.specs.Lists.{at}
use Rattle.sv_rule.specs.Table.{slot_of}
use Rattle.sv_rule.specs.Views.{away}
use Rattle.sv_slots.specs.Borrows.{IsLooked, word_of}
use Rattle.sv_slots.proofs.CarriedByCalls.{lane_stands, seated}
use Rattle.sv_slots.proofs.CarriedBySteps.{carries_still, carry}
use Rattle.sv_slots.proofs.LookSteps.{checked_same, none_pos, sees, some_of, some_of_is, some_of_pos, some_pos}
use Rattle.sv_slots.proofs.ToldCounts.{tells_stand, told_of}
use Rattle.sv_slots.proofs.table.Core.look.Goals as goal

pub invariant_of-seat : goal.invariant_of-seat
invariant_of-seat g c =
    let s = c.args.seat.now in let m = s.seat.me in let u = c.look_step-now in let n = u.new.seat.me in
    let f = c.family.inside.0 in
    let near : f < 16 = omega (arith, c.family.view_is, c.requires.family) in
    let unheld = s.carried.none_held f in
    let view = (sees f u.result m n u.ensures.looked unheld (some_of u.result) (some_of_is u.result) (some_of_pos u.result)).view in
    record {
      is_lane = lane_stands m.0 n.0 s.lane (ap seated view) s.is_lane;
      tells = tells_stand m.0 n.0 s.counts (ap told_of view) s.tells;
      carried = carries_still m.0 n.0 m.1 n.1 s.out.items f s.carried near
          (ap carry view ∙ (λ i. (
            m.0.locks,
            m.0.known.lane,
            put away m.0.slots.slot f
                (checked_same (slot_of m.0 f) (word_of (some_of u.result)) (at 0 m.0.known.seen f) unheld i),
          )))
          (ap (λ z. z.1) u.ensures.looked.is);
    }

pub returns-then-now-eq0-clause-looked : goal.returns-then-now-eq0-clause-looked
returns-then-now-eq0-clause-looked g c =
    let s = c.args.seat.now in let m = s.seat.me in let u = c.look_step-now in
    subst (λ (z : ℕ). IsLooked z None m.0 u.new.seat.me.0) c.family.view_is
    (sees c.family.inside.0 u.result m u.new.seat.me u.ensures.looked (s.carried.none_held c.family.inside.0) None
    c.if-now-eq0.true none_pos)

pub returns-clause-looked : goal.returns-clause-looked
returns-clause-looked g c =
    let s = c.args.seat.now in let m = s.seat.me in let u = c.look_step-now in
    subst (λ (z : ℕ). IsLooked z (Some u.result) m.0 u.new.seat.me.0) c.family.view_is
    (sees c.family.inside.0 u.result m u.new.seat.me u.ensures.looked (s.carried.none_held c.family.inside.0)
    (Some u.result) refl (λ p e. some_pos u.result p c.if-now-eq0.false e))
