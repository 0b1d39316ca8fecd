use Rattle.std.proofs.Common.{ap, arith, subst, sym, ℕ, ◌∙◌}
use Rattle.sv_rule.specs.Numbers.{NumberOk}
use Rattle.sv_rule.specs.ReferencePlays.{MayOpen}
use Rattle.sv_rule.specs.Views.{begun}
use Rattle.sv_slots.proofs.CarriedByCalls.{carries_desk, lane_stands}
use Rattle.sv_slots.proofs.Installed.{begins, install_carried, install_was, installed_works, is_installed, may_swap}
use Rattle.sv_slots.specs.Installs.{installed}
use Rattle.sv_slots.specs.Seats.{bodied}
use Rattle.sv_slots.proofs.ToldCounts.{tells_stand}
use Rattle.sv_slots.proofs.table.Core.make_current.Goals as goal

pub open_step-requires-clause-may : goal.open_step-requires-clause-may
open_step-requires-clause-may g c =
    let x = bodied g.P.Parts.body c.args.new.now in
    subst (λ (z : ℕ). MayOpen c.args.seat.now.seat.me.0 z x (g.P.Parts.books c.args.state.now) g.J.Installing.task)
    (sym c.family.view_is) c.requires.may

pub round_step-requires-clause-desk : goal.round_step-requires-clause-desk
round_step-requires-clause-desk g c =
    let x = bodied g.P.Parts.body c.args.new.now in
    let b = g.P.Parts.books c.args.state.now in
    let f = c.family.inside.0 in let m = c.args.seat.now.seat.me in
    let may = subst (λ (z : ℕ). MayOpen m.0 z x b g.J.Installing.task) (sym c.family.view_is) c.requires.may in
    begins f x.pack x b g.J.Installing.task g.J.Installing.olds m c.open_step.new.seat.me c.open_step.new.seat.me may
    c.open_step.ensures.opened

pub number_step-requires-clause-may : goal.number_step-requires-clause-may
number_step-requires-clause-may g c =
    let x = bodied g.P.Parts.body c.args.new.now in
    let b = g.P.Parts.books c.args.state.now in
    let f = c.family.inside.0 in let m = c.args.seat.now.seat.me in
    let may = subst (λ (z : ℕ). MayOpen m.0 z x b g.J.Installing.task) (sym c.family.view_is) c.requires.may in
    may_swap f c.word_of-pack.result x b g.J.Installing.task g.J.Installing.olds m c.open_step.new.seat.me
    c.round_step.new.seat.me may c.open_step.ensures.opened c.round_step.ensures.rounded c.word_of-pack.ensures.value
    c.requires.olds (omega (arith, c.requires.room))

pub returns-clause-view : goal.returns-clause-view
returns-clause-view g c =
    let x = bodied g.P.Parts.body c.args.new.now in
    let b = g.P.Parts.books c.args.state.now in
    let f = c.family.inside.0 in let m = c.args.seat.now.seat.me in
    let may = subst (λ (z : ℕ). MayOpen m.0 z x b g.J.Installing.task) (sym c.family.view_is) c.requires.may in
    is_installed f c.word_of-pack.result x b g.J.Installing.task g.J.Installing.olds m c.open_step.new.seat.me
    c.round_step.new.seat.me may c.open_step.ensures.opened c.round_step.ensures.rounded c.number_step.result
    c.number_step.new.seat.me c.word_of-pack.ensures.value c.number_step.ensures.numbered
    ∙ ap (λ (z : ℕ). installed z x b g.J.Installing.task g.J.Installing.olds c.number_step.result m.0) c.family.view_is

pub returns-clause-was : goal.returns-clause-was
returns-clause-was g c =
    let x = bodied g.P.Parts.body c.args.new.now in
    let b = g.P.Parts.books c.args.state.now in
    let f = c.family.inside.0 in let m = c.args.seat.now.seat.me in
    let may = subst (λ (z : ℕ). MayOpen m.0 z x b g.J.Installing.task) (sym c.family.view_is) c.requires.may in
    subst (λ (z : ℕ). NumberOk b (begun z) z c.number_step.result) c.family.view_is
    (install_was f c.word_of-pack.result x b g.J.Installing.task g.J.Installing.olds m c.open_step.new.seat.me
    c.round_step.new.seat.me may c.open_step.ensures.opened c.round_step.ensures.rounded c.number_step.result
    c.number_step.new.seat.me c.word_of-pack.ensures.value c.number_step.ensures.numbered)

pub invariant_of-seat : goal.invariant_of-seat
invariant_of-seat g c =
    let x = bodied g.P.Parts.body c.args.new.now in
    let b = g.P.Parts.books c.args.state.now in
    let f = c.family.inside.0 in let s = c.args.seat.now in let m = s.seat.me in let n = c.number_step.new.seat.me in
    let may = subst (λ (z : ℕ). MayOpen m.0 z x b g.J.Installing.task) (sym c.family.view_is) c.requires.may in
    let view = is_installed f c.word_of-pack.result x b g.J.Installing.task g.J.Installing.olds m
    c.open_step.new.seat.me c.round_step.new.seat.me may c.open_step.ensures.opened c.round_step.ensures.rounded
    c.number_step.result n c.word_of-pack.ensures.value c.number_step.ensures.numbered in
    let carried = install_carried f c.word_of-pack.result x b g.J.Installing.task g.J.Installing.olds m
    c.open_step.new.seat.me c.round_step.new.seat.me may c.open_step.ensures.opened c.round_step.ensures.rounded
    c.number_step.result n c.word_of-pack.ensures.value c.number_step.ensures.numbered in
    let e = installed_works f c.number_step.result x b g.J.Installing.task g.J.Installing.olds m.0 n.0 may.desk may.has
    view in
    record {
      is_lane = lane_stands m.0 n.0 s.lane e.0 s.is_lane;
      tells = tells_stand m.0 n.0 s.counts e.3 s.tells;
      carried = carries_desk m.0 n.0 m.1 n.1 s.out.items s.carried e.1 e.2 carried;
    }
