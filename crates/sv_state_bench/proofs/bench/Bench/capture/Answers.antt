use Rattle.std.proofs.Common.{◌∷◌, ◌++◌, [], List, Option, Some, sym, ap, ◌∙◌, subst}
use Rattle.sv_model.specs.declared.records.FileMeta.{FileMeta}
use Rattle.sv_state_bench.specs.Standing.{Stands}
use Rattle.sv_state_bench.proofs.OutputLaws.{begun-stands}
use Rattle.sv_state_bench.proofs.bench.Bench.capture.Goals as goal

pub invariant_of-self-2 : goal.invariant_of-self-2
invariant_of-self-2 c =
    let i = c.self.inside in
    let b = c.flush_begin.new.self.books in
    let k = c.in_ok-file in
    let items = c.push_reserved.ensures.items ∙ ap (λ (l : List (Option FileMeta)). l ++ Some k.file ∷ []) c.reserve.ensures.items in
    subst (λ (O : List (Option FileMeta)). Stands b i.actives.items O i.waiting.items) (sym items)
    (begun-stands i.state.books b i.actives.items i.outputs.items i.waiting.items c.self.invariant c.flush_begin.ensures.follows.sound c.args.family k.file k.ensures.begun.captured)
