use Rattle.std.proofs.Common.{◌≡◌, ◌∙◌, ◌++◌, List, length, map, Some, refl, sym, ap, arith}
use Rattle.std.specs.Prelude.{slice_get}
use Rattle.std.proofs.lemmas.Option.{slice_get_read}
use Rattle.sv_model.specs.declared.writes.Row.{Row}
use Rattle.sv_model.specs.declared.writes.Write.{Write}
use Rattle.sv_model.specs.declared.openings.OpenFamily.{OpenFamily}
use Rattle.sv_state.specs.Openings.{opening_write}
use Rattle.sv_state.proofs.OpenLists.{writes-more, writes-room}
use Rattle.sv_state.proofs.opened.journal_of.Goals as goal

pub push_rows-requires-clause-few : goal.push_rows-requires-clause-few
push_rows-requires-clause-few c =
    let kept = c.args.kept.now in
    let i = c.loop-id.id in
    let f = c.index-kept-id.result in
    let at : slice_get kept i ≡ Some f = slice_get_read kept (length kept) i f refl (omega (arith, c.loop-id-test.true)) c.index-kept-id.is in
    let items = c.as_slice.ensures.value ∙ ap (λ (z : OpenFamily). z.writes.items) (sym c.index-kept-id.is) in
    omega (arith, ap (λ (l : List Write). length l) c.loop-id.invariant.writes, ap (λ (l : List Row). length l) items, writes-room 0 i kept f at, c.requires.few)

pub loop-id-preserved : goal.loop-id-preserved
loop-id-preserved c =
    let kept = c.args.kept.now in
    let i = c.loop-id.id in
    let f = c.index-kept-id.result in
    let at : slice_get kept i ≡ Some f = slice_get_read kept (length kept) i f refl (omega (arith, c.loop-id-test.true)) c.index-kept-id.is in
    let items = c.as_slice.ensures.value ∙ ap (λ (z : OpenFamily). z.writes.items) (sym c.index-kept-id.is) in
    record {
      writes = c.in_ok-push_rows.ensures.writes
          ∙ (λ j. c.loop-id.invariant.writes j ++ map (opening_write i) (items j))
          ∙ sym (writes-more kept i f at);
      snapshots = c.in_ok-push_rows.ensures.snapshots ∙ c.loop-id.invariant.snapshots;
    }
