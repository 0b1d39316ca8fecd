use Rattle.std.proofs.Common.{◌∷◌, ◌++◌, [], List, Option, Some, sym, ap, ◌∙◌, subst}
use Rattle.sv_model.specs.declared.records.FileMeta.{FileMeta}
use Rattle.sv_laws.specs.Captures.{IsMergePlanned}
use Rattle.sv_state.specs.Planning.{compact_refusal}
use Rattle.sv_state_bench.specs.Standing.{Stands}
use Rattle.sv_state_bench.proofs.OutputLaws.{begun-stands}
use Rattle.sv_state_bench.proofs.Standings.{own-currents}
use Rattle.sv_state_bench.proofs.Writings.{clear}
use Rattle.sv_state_bench.proofs.bench.Bench.begin_compaction.Goals as goal

pub compact_plan-requires-clause-current : goal.compact_plan-requires-clause-current
compact_plan-requires-clause-current c =
    let i = c.self.inside in
    own-currents i.state.books i.actives.items i.outputs.items i.waiting.items c.self.invariant c.args.lane c.args.name.now

pub invariant_of-self-2 : goal.invariant_of-self-2
invariant_of-self-2 c =
    let i = c.self.inside in
    let a = i.state.books in
    let b = c.compact_plan.new.self.books in
    let k = c.in_ok-file in
    let p = clear a c.args.lane c.args.name.now (compact_refusal a) (λ m file. IsMergePlanned a b m.family file) k.file k.ensures.planned in
    let items = c.push_reserved.ensures.items ∙ ap (λ (l : List (Option FileMeta)). l ++ Some k.file ∷ []) c.reserve.ensures.items in
    subst (λ (O : List (Option FileMeta)). Stands b i.actives.items O i.waiting.items) (sym items)
    (begun-stands a b i.actives.items i.outputs.items i.waiting.items c.self.invariant c.compact_plan.ensures.follows.sound p.meant.family k.file p.is.captured)
