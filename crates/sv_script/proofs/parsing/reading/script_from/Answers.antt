use Rattle.std.proofs.Common.{eqb, length, refl, sym, ◌∙◌, rules, tests, arith}
use Rattle.std.proofs.lemmas.Iterator.Consumers.{YieldsList-at, YieldsList-end, YieldsList-turn}
use Rattle.std.proofs.lemmas.Iterator.Splits.{YieldsList-from_slice_split}
use Rattle.std.proofs.lemmas.List.{length_push}
use Rattle.std.proofs.lemmas.Result.{err_from_is_err_and}
use Rattle.sv_script.specs.Script.{script_of}
use Rattle.sv_script.proofs.ProgressLemmas.{begins, ends, fails, next_line, pieces, pieces_few}
use Rattle.sv_script.proofs.parsing.reading.script_from.Goals as goal

pub loop-line-init : goal.loop-line-init
loop-line-init c = record {
  numbered = refl;
  left = rw (c.from_vec.ensures, c.new.ensures.items) (begins c.args.bytes.now);
}

pub take_line-requires : goal.take_line-requires
take_line-requires c =
    let at = c.loop-line in
    let t = YieldsList-turn (YieldsList-at c.into_iter-line-iterator.ensures.into_iter_gives
    (YieldsList-from_slice_split _ (λ byte. eqb byte 10) c.args.bytes.now c.split-line-items.ensures.rest
    c.split-line-items.ensures.done c.split-line-items.ensures.closure (λ x r q k. search (rules, tests))))
    at.yielded _ at.yielded_by _ _ c.in-Some.line c.in-Some.is c.next.ensures.steps in
    let few = pieces_few c.args.bytes.now in
    let here = t.0 in
    omega arith

pub loop-line-preserved : goal.loop-line-preserved
loop-line-preserved c =
    let at = c.loop-line in
    let t = YieldsList-turn (YieldsList-at c.into_iter-line-iterator.ensures.into_iter_gives
    (YieldsList-from_slice_split _ (λ byte. eqb byte 10) c.args.bytes.now c.split-line-items.ensures.rest
    c.split-line-items.ensures.done c.split-line-items.ensures.closure (λ x r q k. search (rules, tests))))
    at.yielded _ at.yielded_by _ _ c.in-Some.line c.in-Some.is c.next.ensures.steps in
    let bytes = c.args.bytes.now in
    let h = next_line at.read (pieces bytes) (length at.yielded) (script_of bytes) c.in-Some.line.now _ t.0 t.1
    at.invariant.left in
    let next = c.in_ok-take_line.ensures.goes_on in
    record {
      numbered = omega (arith, length_push at.yielded c.in-Some.line);
      left = rw length_push (sym (next.same _) ∙ h);
    }

pub returns-in_err-take_line : goal.returns-in_err-take_line
returns-in_err-take_line c =
    let at = c.loop-line in
    let t = YieldsList-turn (YieldsList-at c.into_iter-line-iterator.ensures.into_iter_gives
    (YieldsList-from_slice_split _ (λ byte. eqb byte 10) c.args.bytes.now c.split-line-items.ensures.rest
    c.split-line-items.ensures.done c.split-line-items.ensures.closure (λ x r q k. search (rules, tests))))
    at.yielded _ at.yielded_by _ _ c.in-Some.line c.in-Some.is c.next.ensures.steps in
    let bytes = c.args.bytes.now in
    let h = next_line at.read (pieces bytes) (length at.yielded) (script_of bytes) c.in-Some.line.now _ t.0 t.1
    at.invariant.left in
    let p = err_from_is_err_and c.from_residual.result c.from_residual.ensures.1 in
    record {
      script = rw (p.1, p.2) (fails c.in_err-take_line.field-0.0 at.read _ _ _ c.in_err-take_line.ensures.stops h);
    }

pub returns : goal.returns
returns c =
    let at = c.loop-line in
    let t = YieldsList-end (YieldsList-at c.into_iter-line-iterator.ensures.into_iter_gives
    (YieldsList-from_slice_split _ (λ byte. eqb byte 10) c.args.bytes.now c.split-line-items.ensures.rest
    c.split-line-items.ensures.done c.split-line-items.ensures.closure (λ x r q k. search (rules, tests))))
    at.yielded _ at.yielded_by _ _ c.in-None.is c.next.ensures.steps in
    let bytes = c.args.bytes.now in
    record {
      script = rw (c.lanes_of.ensures, c.as_slice.ensures)
          (ends at.read (pieces bytes) (length at.yielded) (script_of bytes) (omega (arith, t.1)) at.invariant.left);
    }
