use Rattle.std.proofs.Common.{sym, ◌∙◌, subst}
use Rattle.sv_model.specs.Books.{Books}
use Rattle.sv_store.specs.Standing.{IsStill}
use Rattle.sv_store.specs.Writing.{IsEmptyIn}
use Rattle.sv_store.proofs.StillLaws.{cleaned-still}
use Rattle.sv_store.proofs.ActiveCells.{active-at, switched-stands}
use Rattle.sv_store.proofs.CellLaws.{cell_now}
use Rattle.sv_store.proofs.StandLaws.{follows-through}
use Rattle.sv_store.proofs.SwitchLaws.{old-goes, switched-empty}
use Rattle.sv_store.proofs.switches.switch.Goals as goal

pub memtable-requires : goal.memtable-requires
memtable-requires c =
    let h = c.requires in
    let a = c.args.state.now.books in
    (cell_now a.journal h.it.descriptor.active, active-at a c.args.cells.now h.stands c.args.family h.serial h.it h.is_open c.args.cell h.cell_is)

pub switch-requires : goal.switch-requires
switch-requires c =
    let h = c.requires in
    let a = c.args.state.now.books in
    let at = active-at a c.args.cells.now h.stands c.args.family h.serial h.it h.is_open c.args.cell h.cell_is in
    record {
      serial = h.serial;
      it = h.it;
      is_open = h.is_open;
      row = h.row;
      frozen_is = c.in-Ok.ensures.ok ∙ c.in_ok-frozen.ensures ∙ c.memtable.ensures (cell_now a.journal h.it.descriptor.active) at;
    }

pub obey-requires : goal.obey-requires
obey-requires c =
    let h = c.requires in
    let k = c.in_ok-install in
    switched-stands c.args.state.now.books c.switch.new.self.books c.args.cells.now h.stands c.switch.ensures.follows.sound c.args.family k.ensures.switched k.install k.ensures.tells

pub returns-clause-switched : goal.returns-clause-switched
returns-clause-switched c =
    let h = c.requires in
    let k = c.in_ok-install in
    let a = c.args.state.now.books in
    let m = c.switch.new.self.books in
    let can = switched-stands a m c.args.cells.now h.stands c.switch.ensures.follows.sound c.args.family k.ensures.switched k.install k.ensures.tells in
    record {
      mid = m;
      is = k.ensures.switched;
      goes = old-goes a m c.obey.new.state.books h.stands.sound c.args.family k.ensures.switched c.switch.ensures.follows.sound k.install.old k.ensures.tells.tells.old can.r can.old_is
          (c.obey.ensures.goes can.r can.old_is);
    }

pub returns-clause-still : goal.returns-clause-still
returns-clause-still c =
    let h = c.requires in
    let k = c.in_ok-install in
    let a = c.args.state.now.books in
    let m = c.switch.new.self.books in
    let can = switched-stands a m c.args.cells.now h.stands c.switch.ensures.follows.sound c.args.family k.ensures.switched k.install k.ensures.tells in
    let p = c.obey.ensures.goes can.r can.old_is in
    λ (s : IsStill a.files). cleaned-still m c.obey.new.state.books p.s p.x p.cleaned (subst (λ (z : Books). IsStill z.files) (sym k.ensures.switched.is) s)

pub returns-clause-empty : goal.returns-clause-empty
returns-clause-empty c =
    let h = c.requires in
    let k = c.in_ok-install in
    let a = c.args.state.now.books in
    let m = c.switch.new.self.books in
    let b = c.obey.new.state.books in
    let can = switched-stands a m c.args.cells.now h.stands c.switch.ensures.follows.sound c.args.family k.ensures.switched k.install k.ensures.tells in
    let g = old-goes a m b h.stands.sound c.args.family k.ensures.switched c.switch.ensures.follows.sound k.install.old k.ensures.tells.tells.old can.r can.old_is (c.obey.ensures.goes can.r can.old_is) in
    let t = k.ensures.tells in
    subst (IsEmptyIn b c.args.family) (sym (c.cell_of-cell.ensures t.memtable.cell _ t.vacant))
    (switched-empty a m b h.stands.sound c.args.family k.ensures.switched g t.memtable t.memtable_at)

pub returns-clause-follows : goal.returns-clause-follows
returns-clause-follows c =
    follows-through c.args.state.now.books c.switch.new.self.books c.obey.new.state.books c.switch.ensures.follows c.obey.ensures.follows
