use Rattle.std.proofs.Common.{[], ap, arith, length, subst, sym, ℕ, ◌∙◌}
use Rattle.std.specs.Arc.{arc_value}
use Rattle.sv_model.specs.Books.{Books}
use Rattle.sv_rule.specs.Views.{LaneView}
use Rattle.sv_state.specs.Seen.{StateSeen}
use Rattle.sv_state.specs.Writing.{CanSwitch}
use Rattle.sv_puts.proofs.SwitchLaws.{goes-on-desk, has-old, has-vacant, made, may-install, new-id, switches-to}
use Rattle.sv_puts.proofs.switches.switch.Goals as goal

pub switch-requires : goal.switch-requires
switch-requires g c =
    let same = ap (λ (z : StateSeen). z.books) (c.deref_mut.ensures.value ∙ c.held.view_is) in
    let h = c.requires.can.1.active in
    subst (λ (z : Books). CanSwitch z c.args.family (arc_value c.in-Ok.frozen)) (sym same) (record {
      serial = h.serial;
      it = h.it;
      is_open = h.is_open;
      row = c.requires.can.1.row;
      frozen_is = c.in-Ok.ensures.ok h;
    })

pub place_of-cell-requires : goal.place_of-cell-requires
place_of-cell-requires g c =
    let same = ap (λ (z : StateSeen). z.books) (c.deref_mut.ensures.value ∙ c.held.view_is) in
    let k = c.in-Ok-switch in let a = c.args.held.now.books in let m = c.switch.new.self.books in
    let v = c.args.seat.now.seat.me.0 in let u = c.freeze.new.seat.seat.me.0 in
    let desk = goes-on-desk a v u c.requires.desk.0 c.in-Ok.ensures.goes in
    let is = made c.deref_mut.result.now.books a m same c.args.family k.install k.ensures.follows k.ensures.switched k.ensures.tells in
    has-vacant a m c.args.family u desk k.install is

pub before-old-requires : goal.before-old-requires
before-old-requires g c =
    let same = ap (λ (z : StateSeen). z.books) (c.deref_mut.ensures.value ∙ c.held.view_is) in
    let k = c.in-Ok-switch in let a = c.args.held.now.books in let m = c.switch.new.self.books in
    let v = c.args.seat.now.seat.me.0 in let u = c.freeze.new.seat.seat.me.0 in
    let desk = goes-on-desk a v u c.requires.desk.0 c.in-Ok.ensures.goes in
    let is = made c.deref_mut.result.now.books a m same c.args.family k.install k.ensures.follows k.ensures.switched k.ensures.tells in
    has-old a m c.args.family u desk k.install is

pub install_filled-requires-clause-may : goal.install_filled-requires-clause-may
install_filled-requires-clause-may g c =
    let same = ap (λ (z : StateSeen). z.books) (c.deref_mut.ensures.value ∙ c.held.view_is) in
    let k = c.in-Ok-switch in let a = c.args.held.now.books in let m = c.switch.new.self.books in
    let v = c.args.seat.now.seat.me.0 in let u = c.freeze.new.seat.seat.me.0 in
    let goes = c.in-Ok.ensures.goes in
    let desk = goes-on-desk a v u c.requires.desk.0 goes in
    let is = made c.deref_mut.result.now.books a m same c.args.family k.install k.ensures.follows k.ensures.switched k.ensures.tells in
    may-install a m c.args.family u desk k.install is c.place_of-cell.result c.place_of-cell.ensures c.before-old.result
    c.before-old.ensures c.requires.can.0 (ap (λ (z : LaneView). z.owes) goes.2 ∙ c.requires.desk.1)
    (omega (arith, ap (λ (z : LaneView). length z.hand) goes.2, c.requires.room))

pub install_filled-requires-clause-memtable : goal.install_filled-requires-clause-memtable
install_filled-requires-clause-memtable g c =
    let same = ap (λ (z : StateSeen). z.books) (c.deref_mut.ensures.value ∙ c.held.view_is) in
    let k = c.in-Ok-switch in let a = c.args.held.now.books in let m = c.switch.new.self.books in
    let v = c.args.seat.now.seat.me.0 in let u = c.freeze.new.seat.seat.me.0 in
    let desk = goes-on-desk a v u c.requires.desk.0 c.in-Ok.ensures.goes in
    let is = made c.deref_mut.result.now.books a m same c.args.family k.install k.ensures.follows k.ensures.switched k.ensures.tells in
    c.new-3.ensures ∙ ap (λ (n : ℕ). record { id = n; rows = [] })
    (new-id a m c.args.family u desk k.install is c.place_of-cell.result c.place_of-cell.ensures)

pub returns-clause-ok : goal.returns-clause-ok
returns-clause-ok g c =
    let same = ap (λ (z : StateSeen). z.books) (c.deref_mut.ensures.value ∙ c.held.view_is) in
    let k = c.in-Ok-switch in let a = c.args.held.now.books in let m = c.switch.new.self.books in
    let v = c.args.seat.now.seat.me.0 in let u = c.freeze.new.seat.seat.me.0 in
    let goes = c.in-Ok.ensures.goes in
    let desk = goes-on-desk a v u c.requires.desk.0 goes in
    let is = made c.deref_mut.result.now.books a m same c.args.family k.install k.ensures.follows k.ensures.switched k.ensures.tells in
    switches-to a m c.args.family u desk k.install is c.place_of-cell.result c.place_of-cell.ensures
    c.install_filled.new.held.books v c.install_filled.new.seat.seat.me.0 goes c.install_filled.ensures.installs
