use Rattle.std.proofs.Common.{None, ap, refl, subst, sym, ◌∙◌, ◌≡◌}
use Rattle.sv_model.specs.Books.{Books}
use Rattle.sv_sets.proofs.Renewal.{IsMade, has-old, made, may-install, renewed-locked}
use Rattle.sv_sets.specs.Setting.{due_to_set}
use Rattle.sv_state.specs.Seen.{StateSeen}
use Rattle.sv_state.specs.declared.installs.Install.{Install}
use Rattle.sv_sets.proofs.sets.set_locked.Goals as goal

pub before-old-requires : goal.before-old-requires
before-old-requires g c =
    let same = ap (λ (z : StateSeen). z.books) (c.deref_mut.ensures.value ∙ c.held.view_is) in
    let k = c.in-Ok in let a = c.args.held.now.books in let m = c.set_option.new.self.books in
    let l = c.args.lane in let name = c.args.name.now in let option = c.args.option in let value = c.args.value in
    let is = subst (λ (z : Install). IsMade l name option value a m z) (sym c.made.view_is)
    (made l name option value c.deref_mut.result.now.books a m same k.made k.ensures.follows k.ensures.set k.ensures.tells) in
    has-old l name option value a m c.args.seat.now.seat.me.0 c.requires.desk.0 _ is

pub install-requires-clause-may : goal.install-requires-clause-may
install-requires-clause-may g c =
    let same = ap (λ (z : StateSeen). z.books) (c.deref_mut.ensures.value ∙ c.held.view_is) in
    let k = c.in-Ok in let a = c.args.held.now.books in let m = c.set_option.new.self.books in
    let l = c.args.lane in let name = c.args.name.now in let option = c.args.option in let value = c.args.value in
    let is = subst (λ (z : Install). IsMade l name option value a m z) (sym c.made.view_is)
    (made l name option value c.deref_mut.result.now.books a m same k.made k.ensures.follows k.ensures.set k.ensures.tells) in
    may-install l name option value a m c.args.seat.now.seat.me.0 c.requires.desk.0 _ is c.before-old.result
    c.before-old.ensures c.requires.desk.1 c.requires.room

pub returns-clause-sets : goal.returns-clause-sets
returns-clause-sets g c =
    let same = ap (λ (z : StateSeen). z.books) (c.deref_mut.ensures.value ∙ c.held.view_is) in
    let k = c.in-Ok in let a = c.args.held.now.books in let m = c.set_option.new.self.books in
    let l = c.args.lane in let name = c.args.name.now in let option = c.args.option in let value = c.args.value in
    let is = subst (λ (z : Install). IsMade l name option value a m z) (sym c.made.view_is)
    (made l name option value c.deref_mut.result.now.books a m same k.made k.ensures.follows k.ensures.set k.ensures.tells) in
    renewed-locked l name option value a m c.args.seat.now.seat.me.0 c.requires.desk.0 _ is
    c.made.inside.0.1.0.serial c.made.inside.0.1.0.place refl c.made.invariant
    (subst (λ (z : Books). due_to_set z l name option value ≡ None) same k.ensures.refused)
    c.install.new.held.books c.install.new.seat.seat.me.0 c.install.ensures.installs
