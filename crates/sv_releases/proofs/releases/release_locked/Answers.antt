use Rattle.std.proofs.Common.{None, Some, ap, subst, sym, ◌∙◌}
use Rattle.std.specs.Option.{option_map}
use Rattle.std.specs.Prelude.{IfSome}
use Rattle.sv_model.specs.Books.{Books}
use Rattle.sv_releases.proofs.Closing.{done, ending-may, ending-old, locked-closed, locked-refused, locked-retired}
use Rattle.sv_state.specs.Currents.{OwnHaveCurrents}
use Rattle.sv_state.specs.Gone.{IsReleasedAs, TellsEnd}
use Rattle.sv_state.specs.Seen.{StateSeen}
use Rattle.sv_state.specs.declared.installs.Install.{Install}
use Rattle.sv_releases.proofs.releases.release_locked.Goals as goal

pub release-requires-clause-current : goal.release-requires-clause-current
release-requires-clause-current g c =
    subst (λ (z : Books). OwnHaveCurrents z c.args.lane c.args.name.now)
    (sym (ap (λ (z : StateSeen). z.books) (c.deref_mut.ensures.value ∙ c.held.view_is))) c.requires.current

pub returns-in-Err-clause-releases : goal.returns-in-Err-clause-releases
returns-in-Err-clause-releases g c =
    let same = ap (λ (z : StateSeen). z.books) (c.deref_mut.ensures.value ∙ c.held.view_is) in
    locked-refused c.deref_mut.result.now.books c.args.held.now.books c.release.new.self.books same c.args.lane
    c.args.seat.now.seat.me.0 c.requires.lane.1 c.requires.desk.0 c.args.name.now c.in-Err.refusal c.in-Err.ensures.refused
    (ap (λ (z : StateSeen). z.books) c.in-Err.ensures.kept)

pub before-old-requires : goal.before-old-requires
before-old-requires g c =
    let same = ap (λ (z : StateSeen). z.books) (c.deref_mut.ensures.value ∙ c.held.view_is) in
    let x = c.deref_mut.result.now.books in let a = c.args.held.now.books in let b = c.release.new.self.books in
    let v = c.args.seat.now.seat.me.0 in let i = c.in-Some.install in
    let q = done x a b same c.args.lane v c.requires.lane.1 c.requires.desk.0 c.args.name.now (Some i.family)
    c.release.ensures.follows
    (subst (λ o. IsReleasedAs x b c.args.lane c.args.name.now (option_map (λ (z : Install). z.family) o)) c.in-Some.is
    c.in-Ok.ensures.released) c.in-Ok.ensures.refused in
    let told = subst (λ o. IfSome o (TellsEnd x)) c.in-Some.is c.in-Ok.ensures.tells in
    ending-old x a b same c.args.lane v c.requires.lane.1 c.requires.desk.0 c.args.name.now i q told

pub end_current-requires-clause-may : goal.end_current-requires-clause-may
end_current-requires-clause-may g c =
    let same = ap (λ (z : StateSeen). z.books) (c.deref_mut.ensures.value ∙ c.held.view_is) in
    let x = c.deref_mut.result.now.books in let a = c.args.held.now.books in let b = c.release.new.self.books in
    let v = c.args.seat.now.seat.me.0 in let i = c.in-Some.install in
    let q = done x a b same c.args.lane v c.requires.lane.1 c.requires.desk.0 c.args.name.now (Some i.family)
    c.release.ensures.follows
    (subst (λ o. IsReleasedAs x b c.args.lane c.args.name.now (option_map (λ (z : Install). z.family) o)) c.in-Some.is
    c.in-Ok.ensures.released) c.in-Ok.ensures.refused in
    let told = subst (λ o. IfSome o (TellsEnd x)) c.in-Some.is c.in-Ok.ensures.tells in
    ending-may x a b same c.args.lane v c.requires.lane.1 c.requires.desk.0 c.args.name.now i q told
    c.before-old.result c.before-old.ensures c.requires.desk.1 c.requires.hand.0 c.requires.hand.1

pub returns-clause-releases : goal.returns-clause-releases
returns-clause-releases g c =
    let same = ap (λ (z : StateSeen). z.books) (c.deref_mut.ensures.value ∙ c.held.view_is) in
    let x = c.deref_mut.result.now.books in let a = c.args.held.now.books in let b = c.release.new.self.books in
    let v = c.args.seat.now.seat.me.0 in let i = c.in-Some.install in
    let q = done x a b same c.args.lane v c.requires.lane.1 c.requires.desk.0 c.args.name.now (Some i.family)
    c.release.ensures.follows
    (subst (λ o. IsReleasedAs x b c.args.lane c.args.name.now (option_map (λ (z : Install). z.family) o)) c.in-Some.is
    c.in-Ok.ensures.released) c.in-Ok.ensures.refused in
    let told = subst (λ o. IfSome o (TellsEnd x)) c.in-Some.is c.in-Ok.ensures.tells in
    locked-retired x a b same c.args.lane v c.requires.lane.1 c.requires.desk.0 c.args.name.now i q told
    c.end_current.new.held.books c.end_current.new.seat.seat.me.0 c.end_current.ensures.retires

pub returns-in_default-clause-releases : goal.returns-in_default-clause-releases
returns-in_default-clause-releases g c =
    let same = ap (λ (z : StateSeen). z.books) (c.deref_mut.ensures.value ∙ c.held.view_is) in
    let x = c.deref_mut.result.now.books in let b = c.release.new.self.books in
    locked-closed x c.args.held.now.books b same c.args.lane
    c.args.seat.now.seat.me.0 c.requires.lane.1 c.requires.desk.0 c.args.name.now
    (done x c.args.held.now.books b same c.args.lane c.args.seat.now.seat.me.0 c.requires.lane.1 c.requires.desk.0
    c.args.name.now None c.release.ensures.follows
    (subst (λ o. IsReleasedAs x b c.args.lane c.args.name.now (option_map (λ (i : Install). i.family) o)) c.in_default.is
    c.in-Ok.ensures.released) c.in-Ok.ensures.refused)
