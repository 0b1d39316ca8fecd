use Rattle.std.proofs.Common.{◌≡◌, ◌∙◌, length, take, Some, refl, sym, subst}
use Rattle.std.specs.Prelude.{slice_get}
use Rattle.std.proofs.lemmas.Option.{slice_get_read}
use Rattle.sv_state.specs.Begun.{IsBegun}
use Rattle.sv_state.proofs.OpenLists.{take-more}
use Rattle.sv_state.proofs.begun.Begun.of.Goals as goal

pub add-requires-clause-sound : goal.add-requires-clause-sound
add-requires-clause-sound c =
    let kept = c.args.kept.now in
    let i = c.loop-family.family-index in
    let f = c.family-item.result in
    let at : slice_get kept i ≡ Some f = slice_get_read kept (length kept) i f refl c.loop-family-test.true c.family-item.is in
    c.requires.sound i f at

pub loop-family-preserved : goal.loop-family-preserved
loop-family-preserved c =
    let kept = c.args.kept.now in
    let i = c.loop-family.family-index in
    let f = c.family-item.result in
    let at : slice_get kept i ≡ Some f = slice_get_read kept (length kept) i f refl c.loop-family-test.true c.family-item.is in
    record {
      begun = subst (λ l. IsBegun l c.add.new.self) (sym (take-more kept i f at)) (c.in_ok-add.ensures.begun (take i kept) c.loop-family.invariant.begun);
      files = c.in_ok-add.ensures.files ∙ c.loop-family.invariant.files;
    }
