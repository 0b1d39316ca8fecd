use Rattle.std.proofs.Common.{◌≡◌, List, Option, Some, length, slice_set, refl, sym, ap, ◌∙◌, subst, arith}
use Rattle.std.proofs.lemmas.Option.{slice_get_read}
use Rattle.std.specs.Prelude.{slice_get}
use Rattle.sv_model.specs.declared.records.FileMeta.{FileMeta}
use Rattle.sv_state_bench.specs.Standing.{Stands}
use Rattle.sv_state_bench.proofs.OutputLaws.{given-up-stands}
use Rattle.sv_state_bench.proofs.bench.Bench.give_up.Goals as goal

pub invariant_of-self-2 : goal.invariant_of-self-2
invariant_of-self-2 c =
    let i = c.self.inside in
    let b = c.output_failed.new.self.books in
    let at : slice_get i.outputs.items c.args.place ≡ Some (Some c.in_ok-file.file) =
    slice_get_read i.outputs.items (length i.outputs.items) c.args.place c.index_mut.result.now refl (omega (arith, c.if-place-len.false, c.len.ensures, i.outputs.ok.0)) c.index_mut.ensures.value
    ∙ ap Some (sym c.replace.ensures.value ∙ c.in_ok-file.was) in
    let g = c.output_failed.ensures.given_up in
    subst (λ (O : List (Option FileMeta)). Stands b i.actives.items O i.waiting.items) (λ j. slice_set i.outputs.items c.args.place (sym c.replace.ensures.after j))
    (given-up-stands i.state.books b i.actives.items i.outputs.items i.waiting.items c.self.invariant c.output_failed.ensures.follows.sound c.args.place c.in_ok-file.file at g.0 g.1)
