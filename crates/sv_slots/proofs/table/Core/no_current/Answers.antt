use Rattle.std.proofs.Common.{ap, subst, sym, ℕ, ◌∙◌}
use Rattle.sv_rule.specs.Numbers.{NumberOk}
use Rattle.sv_rule.specs.RoundPlays.{MayEndCurrent}
use Rattle.sv_rule.specs.Views.{begun}
use Rattle.sv_slots.proofs.CarriedByCalls.{carries_desk, lane_stands}
use Rattle.sv_slots.proofs.Installed.{is_retired_now, may_swap_none, retire_carried, retire_was, retired_works}
use Rattle.sv_slots.specs.Installs.{retired}
use Rattle.sv_slots.proofs.ToldCounts.{tells_stand}
use Rattle.sv_slots.proofs.table.Core.no_current.Goals as goal

pub end_step-requires-clause-may : goal.end_step-requires-clause-may
end_step-requires-clause-may g c =
    subst (λ (z : ℕ). MayEndCurrent c.args.seat.now.seat.me.0 z (g.P.Parts.books c.args.state.now)
    g.J.Installing.task) (sym c.family.view_is) c.requires.may

pub number_step-requires-clause-may : goal.number_step-requires-clause-may
number_step-requires-clause-may g c =
    let b = g.P.Parts.books c.args.state.now in let m = c.args.seat.now.seat.me in
    let may = subst (λ (z : ℕ). MayEndCurrent m.0 z b g.J.Installing.task) (sym c.family.view_is) c.requires.may in
    may_swap_none c.family.inside.0 b g.J.Installing.task g.J.Installing.olds m c.end_step.new.seat.me may
    c.end_step.ensures.ended c.requires.olds c.requires.room

pub returns-clause-view : goal.returns-clause-view
returns-clause-view g c =
    let b = g.P.Parts.books c.args.state.now in let m = c.args.seat.now.seat.me in
    let may = subst (λ (z : ℕ). MayEndCurrent m.0 z b g.J.Installing.task) (sym c.family.view_is) c.requires.may in
    is_retired_now c.family.inside.0 b g.J.Installing.task g.J.Installing.olds m c.end_step.new.seat.me may
    c.end_step.ensures.ended c.number_step.result c.number_step.new.seat.me c.number_step.ensures.numbered
    ∙ ap (λ (z : ℕ). retired z b g.J.Installing.task g.J.Installing.olds c.number_step.result m.0) c.family.view_is

pub returns-clause-was : goal.returns-clause-was
returns-clause-was g c =
    let b = g.P.Parts.books c.args.state.now in let m = c.args.seat.now.seat.me in
    let may = subst (λ (z : ℕ). MayEndCurrent m.0 z b g.J.Installing.task) (sym c.family.view_is) c.requires.may in
    subst (λ (z : ℕ). NumberOk b (begun z) z c.number_step.result) c.family.view_is
    (retire_was c.family.inside.0 b g.J.Installing.task g.J.Installing.olds m c.end_step.new.seat.me may
    c.end_step.ensures.ended c.number_step.result c.number_step.new.seat.me c.number_step.ensures.numbered)

pub invariant_of-seat : goal.invariant_of-seat
invariant_of-seat g c =
    let b = g.P.Parts.books c.args.state.now in let s = c.args.seat.now in let m = s.seat.me in
    let n = c.number_step.new.seat.me in
    let may = subst (λ (z : ℕ). MayEndCurrent m.0 z b g.J.Installing.task) (sym c.family.view_is) c.requires.may in
    let view = is_retired_now c.family.inside.0 b g.J.Installing.task g.J.Installing.olds m c.end_step.new.seat.me may
    c.end_step.ensures.ended c.number_step.result n c.number_step.ensures.numbered in
    let carried = retire_carried c.family.inside.0 b g.J.Installing.task g.J.Installing.olds m c.end_step.new.seat.me
    may c.end_step.ensures.ended c.number_step.result n c.number_step.ensures.numbered in
    let e = retired_works c.family.inside.0 c.number_step.result b g.J.Installing.task g.J.Installing.olds m.0 n.0
    may.desk may.has view in
    record {
      is_lane = lane_stands m.0 n.0 s.lane e.0 s.is_lane;
      tells = tells_stand m.0 n.0 s.counts e.3 s.tells;
      carried = carries_desk m.0 n.0 m.1 n.1 s.out.items s.carried e.1 e.2 carried;
    }
