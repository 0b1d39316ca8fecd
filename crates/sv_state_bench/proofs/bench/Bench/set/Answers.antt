use Rattle.std.proofs.Common.{◌≡◌, ◌∷◌, ◌++◌, ℕ, [], List, Option, sym, ◌∙◌, subst}
use Rattle.sv_state_bench.specs.Standing.{Stands}
use Rattle.sv_state_bench.proofs.Installs.{pack_of, set-stands}
use Rattle.sv_state_bench.proofs.Standings.{own-currents}
use Rattle.sv_state_bench.proofs.bench.Bench.set.Goals as goal

pub set_option-requires-clause-current : goal.set_option-requires-clause-current
set_option-requires-clause-current c =
    let i = c.self.inside in
    own-currents i.state.books i.actives.items i.outputs.items i.waiting.items c.self.invariant c.args.lane c.args.name.now

pub invariant_of-self-2 : goal.invariant_of-self-2
invariant_of-self-2 c =
    let i = c.self.inside in
    let b = c.set_option.new.self.books in
    let k = c.in_ok-install in
    let items : c.push_reserved.new.self.items ≡ i.waiting.items ++ pack_of k.install.old ∷ [] =
    c.push_reserved.ensures.items ∙ (λ j. c.reserve.ensures.items j ++ c.pack_of.ensures j ∷ []) in
    subst (λ (W : List (Option ℕ)). Stands b i.actives.items i.outputs.items W) (sym items)
    (set-stands i.state.books b i.actives.items i.outputs.items i.waiting.items c.self.invariant c.set_option.ensures.follows.sound k.install.family _ k.ensures.set.set k.install.old k.ensures.tells.old)
