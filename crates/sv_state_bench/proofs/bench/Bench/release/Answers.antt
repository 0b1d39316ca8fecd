use Rattle.std.proofs.Common.{◌≡◌, ◌∷◌, ◌++◌, ℕ, [], List, Option, sym, ◌∙◌, subst}
use Rattle.std.specs.Option.{option_map}
use Rattle.std.specs.Prelude.{IfSome}
use Rattle.sv_state.specs.declared.installs.Install.{Install}
use Rattle.sv_state.specs.Gone.{IsReleasedAs, TellsEnd}
use Rattle.sv_state_bench.specs.Standing.{Stands}
use Rattle.sv_state_bench.proofs.Installs.{pack_of}
use Rattle.sv_state_bench.proofs.Releases.{released-stands, retired-stands}
use Rattle.sv_state_bench.proofs.Standings.{own-currents}
use Rattle.sv_state_bench.proofs.bench.Bench.release.Goals as goal

pub release-requires-clause-current : goal.release-requires-clause-current
release-requires-clause-current c =
    let i = c.self.inside in
    own-currents i.state.books i.actives.items i.outputs.items i.waiting.items c.self.invariant c.args.lane c.args.name.now

pub invariant_of-self-in_default-2 : goal.invariant_of-self-in_default-2
invariant_of-self-in_default-2 c =
    let i = c.self.inside in
    let a = i.state.books in
    let b = c.release.new.self.books in
    let r = subst (λ (o : Option Install). IsReleasedAs a b c.args.lane c.args.name.now (option_map (λ x. x.family) o)) c.in_default-2.is c.in_ok-install.ensures.released in
    subst (λ (W : List (Option ℕ)). Stands b i.actives.items i.outputs.items W) (sym c.reserve.ensures.items)
    (released-stands a b i.actives.items i.outputs.items i.waiting.items c.self.invariant c.release.ensures.follows.sound c.args.lane c.args.name.now r)

pub invariant_of-self-2 : goal.invariant_of-self-2
invariant_of-self-2 c =
    let i = c.self.inside in
    let a = i.state.books in
    let b = c.release.new.self.books in
    let x = c.in-Some.install in
    let r = subst (λ (o : Option Install). IsReleasedAs a b c.args.lane c.args.name.now (option_map (λ x. x.family) o)) c.in-Some.is c.in_ok-install.ensures.released in
    let t = subst (λ (o : Option Install). IfSome o (TellsEnd a)) c.in-Some.is c.in_ok-install.ensures.tells in
    let items : c.push_reserved.new.self.items ≡ i.waiting.items ++ pack_of x.old ∷ [] =
    c.push_reserved.ensures.items ∙ (λ j. c.reserve.ensures.items j ++ c.pack_of.ensures j ∷ []) in
    subst (λ (W : List (Option ℕ)). Stands b i.actives.items i.outputs.items W) (sym items)
    (retired-stands a b i.actives.items i.outputs.items i.waiting.items c.self.invariant c.release.ensures.follows.sound x.family c.args.lane r.3 x.old t.old)
