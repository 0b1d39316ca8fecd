use Rattle.std.proofs.Common.{◌≡◌, ◌+◌, ◌∷◌, ◌++◌, ℕ, [], length, List, sym, ap, ◌∙◌, subst}
use Rattle.sv_model.specs.Cells.{Cell}
use Rattle.sv_model.proofs.Entries.{some}
use Rattle.sv_state_bench.specs.Standing.{Stands}
use Rattle.sv_state_bench.proofs.Installs.{created-stands}
use Rattle.sv_state_bench.proofs.bench.Bench.create.Goals as goal

pub invariant_of-self-2 : goal.invariant_of-self-2
invariant_of-self-2 c =
    let i = c.self.inside in
    let a = i.state.books in
    let b = c.create.new.self.books in
    let k = c.in_ok-install in
    let mem_is : c.in-Some.mem ≡ length a.memtables + 1 = ap (λ (z : ℕ × ℕ). z.1) (some (sym c.in-Some.is ∙ k.ensures.tells.vacant)) in
    let cell : c.new.result ≡ record { id = length a.memtables + 1; rows = [] } = c.new.ensures ∙ ap (λ m. record { id = m; rows = [] }) mem_is in
    let items : c.push_reserved.new.self.items ≡ i.actives.items ++ record { id = length a.memtables + 1; rows = [] } ∷ [] =
    c.push_reserved.ensures.items ∙ (λ j. c.reserve.ensures.items j ++ cell j ∷ []) in
    subst (λ (A : List Cell). Stands b A i.outputs.items i.waiting.items) (sym items)
    (created-stands a b i.actives.items i.outputs.items i.waiting.items c.self.invariant c.create.ensures.follows.sound _ k.ensures.made)
