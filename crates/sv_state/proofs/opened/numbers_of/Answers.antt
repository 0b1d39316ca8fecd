use Rattle.std.proofs.Common.{◌≡◌, ◌∙◌, ◌++◌, length, map, Some, refl, sym, ap, arith}
use Rattle.std.specs.Prelude.{slice_get}
use Rattle.std.proofs.lemmas.Option.{slice_get_read}
use Rattle.sv_model.specs.declared.openings.OpenFamily.{OpenFamily}
use Rattle.sv_state.specs.Openings.{numbered}
use Rattle.sv_state.proofs.OpenLists.{numbers-more}
use Rattle.sv_state.proofs.opened.numbers_of.Goals as goal

pub loop-id-preserved : goal.loop-id-preserved
loop-id-preserved c =
    let kept = c.args.kept.now in
    let i = c.loop-id.id in
    let f = c.index-kept-id.result in
    let at : slice_get kept i ≡ Some f = slice_get_read kept (length kept) i f refl (omega (arith, c.loop-id-test.true)) c.index-kept-id.is in
    let items = c.as_slice.ensures.value ∙ ap (λ (z : OpenFamily). z.files.items) (sym c.index-kept-id.is) in
    c.in_ok-push_numbers.ensures
    ∙ (λ j. c.loop-id.invariant j ++ map (numbered i) (items j))
    ∙ sym (numbers-more kept i f at)
