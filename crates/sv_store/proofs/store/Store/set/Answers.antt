use Rattle.std.proofs.Common.{◌≡◌, ◌<◌, ◌+◌, Some, length, refl, sym, ap, ◌∙◌, subst, arith}
use Rattle.sv_model.specs.declared.records.SuperVersion.{SuperVersion}
use Rattle.sv_model.specs.Books.{Books}
use Rattle.sv_model.specs.Registers.{entry}
use Rattle.sv_model.proofs.Entries.{some}
use Rattle.sv_model.proofs.Registers.{entry-new, entry-old}
use Rattle.sv_state.specs.Follows.{Follows}
use Rattle.sv_store.specs.Seen.{StoreSeen}
use Rattle.sv_store.specs.Setting.{Sets}
use Rattle.sv_store.specs.Standing.{IsStill}
use Rattle.sv_store.proofs.CallLaws.{set-obeys}
use Rattle.sv_store.proofs.FrameLaws.{own-currents}
use Rattle.sv_store.proofs.StandLaws.{current-goes, follows-through}
use Rattle.sv_store.proofs.StillLaws.{cleaned-still}
use Rattle.sv_store.proofs.store.Store.set.Goals as goal

pub set_option-requires-clause-current : goal.set_option-requires-clause-current
set_option-requires-clause-current c = own-currents c.self.inside.state.books c.self.inside.cells c.self.invariant.stands 0 c.args.name.now

pub obey-requires : goal.obey-requires
obey-requires c =
    set-obeys c.self.inside.state.books c.set_option.new.self.books c.self.inside.cells c.self.invariant.stands c.set_option.ensures.follows.sound
    0 c.args.name.now c.args.option c.args.value c.in-Ok.install.family c.in-Ok.ensures.set c.in-Ok.install.old c.in-Ok.ensures.tells.old

pub invariant_of-self-2 : goal.invariant_of-self-2
invariant_of-self-2 c =
    let k = c.in-Ok in
    let m = c.set_option.new.self.books in
    let can = set-obeys c.self.inside.state.books m c.self.inside.cells c.self.invariant.stands c.set_option.ensures.follows.sound
    0 c.args.name.now c.args.option c.args.value k.install.family k.ensures.set k.install.old k.ensures.tells.old in
    let p = c.obey.ensures.goes can.r can.old_is in
    record {
      stands = c.obey.ensures.stands;
      still = cleaned-still m c.obey.new.state.books p.s p.x p.cleaned (subst (λ (z : Books). IsStill z.files) (sym k.ensures.set.set.is) c.self.invariant.still);
    }

pub returns-clause-set : goal.returns-clause-set
returns-clause-set c =
    let k = c.in-Ok in
    let a = c.self.inside.state.books in
    let m = c.set_option.new.self.books in
    let b = c.obey.new.state.books in
    let i = k.ensures.set.set in
    let can = set-obeys a m c.self.inside.cells c.self.invariant.stands c.set_option.ensures.follows.sound
    0 c.args.name.now c.args.option c.args.value k.install.family k.ensures.set k.install.old k.ensures.tells.old in
    let on : entry m.supers i.s ≡ Some i.c = ap (λ (z : Books). entry z.supers i.s) i.is ∙ entry-old a.supers _ i.s i.c i.is_open.current.has in
    let t = k.ensures.tells in
    let place_is : t.it.place ≡ i.place = ap (λ (z : SuperVersion). z.place)
    (some (sym t.at ∙ ap (λ (z : Books). entry z.supers (length a.supers + 1)) i.is ∙ entry-new a.supers _ (length a.supers + 1) refl)) in
    let low : t.it.place < 256 = subst (λ n. n < 256) (sym place_is) i.room.within in
    subst (λ (z : StoreSeen). Sets z.books b c.args.name.now c.args.option c.args.value c.new.inside.serial) c.self.view_is
    (record {
      family = k.install.family;
      renews = record {
        mid = m;
        is = k.ensures.set;
        goes = current-goes a m b k.install.family i.s i.c c.self.invariant.stands.sound c.set_option.ensures.follows.sound i.is_open k.install.old k.ensures.tells.old
            can.r can.old_is on (c.obey.ensures.goes can.r can.old_is);
      };
      serial_is = omega (arith, c.new.view_is, c.new.invariant, t.new_is, low);
    })

pub returns-clause-follows : goal.returns-clause-follows
returns-clause-follows c =
    subst (λ (z : StoreSeen). Follows z.books c.obey.new.state.books) c.self.view_is
    (follows-through c.self.inside.state.books c.set_option.new.self.books c.obey.new.state.books c.set_option.ensures.follows c.obey.ensures.follows)
