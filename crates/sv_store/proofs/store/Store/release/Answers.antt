-- The family is not retired, or its current goes.
use Rattle.std.proofs.Common.{ℕ, Option, inr, ap, subst}
use Rattle.std.specs.Option.{option_map}
use Rattle.sv_state.specs.declared.installs.Install.{Install}
use Rattle.sv_state.specs.Follows.{Follows}
use Rattle.sv_state.specs.Gone.{IsReleasedAs, TellsEnd}
use Rattle.std.specs.Prelude.{IfSome}
use Rattle.sv_store.specs.Releasing.{Releases}
use Rattle.sv_store.specs.Seen.{StoreSeen}
use Rattle.sv_store.proofs.FrameLaws.{own-currents}
use Rattle.sv_store.proofs.RetireLaws.{released-rests, retired-goes, retired-obeys, retired-still}
use Rattle.sv_store.proofs.StandLaws.{follows-through}
use Rattle.sv_store.proofs.store.Store.release.Goals as goal

abbrev family_of : Option Install → Option ℕ
family_of install = option_map (λ i. i.family) install

pub release-requires-clause-current : goal.release-requires-clause-current
release-requires-clause-current c = own-currents c.self.inside.state.books c.self.inside.cells c.self.invariant.stands 0 c.args.name.now

pub invariant_of-self-in_default : goal.invariant_of-self-in_default
invariant_of-self-in_default c =
    released-rests c.self.inside.state.books c.release.new.self.books c.self.inside.cells c.self.invariant c.release.ensures.follows.sound c.args.name.now
    (family_of c.in-Ok.install) (ap family_of c.in_default.is) c.in-Ok.ensures.released

pub obey-requires : goal.obey-requires
obey-requires c =
    let a = c.self.inside.state.books in
    let m = c.release.new.self.books in
    let install = c.in-Some.install in
    let r = subst (λ (i : Option Install). IsReleasedAs a m 0 c.args.name.now (family_of i)) c.in-Some.is c.in-Ok.ensures.released in
    let tells = subst (λ (i : Option Install). IfSome i (TellsEnd a)) c.in-Some.is c.in-Ok.ensures.tells in
    retired-obeys a m c.self.inside.cells c.self.invariant.stands c.release.ensures.follows.sound install.family 0 r.3 install.old tells.old

pub invariant_of-self-2 : goal.invariant_of-self-2
invariant_of-self-2 c =
    let a = c.self.inside.state.books in
    let m = c.release.new.self.books in
    let install = c.in-Some.install in
    let r = subst (λ (i : Option Install). IsReleasedAs a m 0 c.args.name.now (family_of i)) c.in-Some.is c.in-Ok.ensures.released in
    let tells = subst (λ (i : Option Install). IfSome i (TellsEnd a)) c.in-Some.is c.in-Ok.ensures.tells in
    let can = retired-obeys a m c.self.inside.cells c.self.invariant.stands c.release.ensures.follows.sound install.family 0 r.3 install.old tells.old in
    record {
      stands = c.obey.ensures.stands;
      still = retired-still a m c.self.inside.cells c.self.invariant.stands c.release.ensures.follows.sound install.family 0 r.3 install.old tells.old
          c.obey.new.state.books can.r can.old_is (c.obey.ensures.goes can.r can.old_is) c.self.invariant.still;
    }

pub returns-clause-released : goal.returns-clause-released
returns-clause-released c =
    let a = c.self.inside.state.books in
    let m = c.release.new.self.books in
    let b = c.obey.new.state.books in
    let install = c.in-Some.install in
    let r = subst (λ (i : Option Install). IsReleasedAs a m 0 c.args.name.now (family_of i)) c.in-Some.is c.in-Ok.ensures.released in
    let tells = subst (λ (i : Option Install). IfSome i (TellsEnd a)) c.in-Some.is c.in-Ok.ensures.tells in
    let can = retired-obeys a m c.self.inside.cells c.self.invariant.stands c.release.ensures.follows.sound install.family 0 r.3 install.old tells.old in
    subst (λ (z : StoreSeen). Releases z.books b c.args.name.now) c.self.view_is
    (inr (record {
      family = install.family;
      mid = m;
      retired = r;
      goes = retired-goes a m c.self.inside.cells c.self.invariant.stands c.release.ensures.follows.sound install.family 0 r.3 install.old tells.old
          b can.r can.old_is (c.obey.ensures.goes can.r can.old_is);
    }))

pub returns-clause-follows : goal.returns-clause-follows
returns-clause-follows c =
    subst (λ (z : StoreSeen). Follows z.books c.obey.new.state.books) c.self.view_is
    (follows-through c.self.inside.state.books c.release.new.self.books c.obey.new.state.books c.release.ensures.follows c.obey.ensures.follows)
