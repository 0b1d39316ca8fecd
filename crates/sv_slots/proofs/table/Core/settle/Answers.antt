use Rattle.std.proofs.Common.{ap, subst, sym, ℕ}
use Rattle.sv_rule.specs.ReferencePlays.{MaySettle}
use Rattle.sv_slots.proofs.CarriedByCalls.{carries_desk, lane_stands}
use Rattle.sv_slots.proofs.Installed.{settled_works}
use Rattle.sv_slots.proofs.ToldCounts.{tells_stand}
use Rattle.sv_slots.proofs.table.Core.settle.Goals as goal

pub settle_step-requires-clause-may : goal.settle_step-requires-clause-may
settle_step-requires-clause-may g c =
    subst (λ (z : ℕ). MaySettle c.args.seat.now.seat.me.0 z (g.P.Parts.books c.args.state.now) g.J.Settling.task
    g.J.Settling.cells) (sym c.word_of.ensures.value) c.requires.may

pub invariant_of-seat : goal.invariant_of-seat
invariant_of-seat g c =
    let s = c.args.seat.now in let m = s.seat.me in let n = c.settle_step.new.seat.me in
    let t = c.settle_step.ensures.settled in
    let e = settled_works c.word_of.result (g.P.Parts.books c.args.state.now) g.J.Settling.task g.J.Settling.cells m.0
    n.0 c.requires.may.desk c.requires.may.has (ap (λ z. z.0) t) in
    record {
      is_lane = lane_stands m.0 n.0 s.lane e.0 s.is_lane;
      tells = tells_stand m.0 n.0 s.counts e.3 s.tells;
      carried = carries_desk m.0 n.0 m.1 n.1 s.out.items s.carried e.1 e.2 (ap (λ z. z.1) t);
    }
