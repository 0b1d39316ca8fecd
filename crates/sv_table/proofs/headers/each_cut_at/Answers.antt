use Rattle.std.proofs.Common.{[], ◌∷◌, length, arith, ap, ◌∙◌}
use Rattle.std.proofs.lemmas.List.{length-append}
use Rattle.std.proofs.lemmas.Result.{err_from_is_err_and}
use Rattle.sv_table.specs.Reading.{each_cut_at}
use Rattle.sv_table.proofs.ItemLoops.{cuts_go, cuts_end, cuts_done}
use Rattle.sv_table.proofs.headers.each_cut_at.Goals as goal

pub returns-in_err-cut : goal.returns-in_err-cut
returns-in_err-cut c =
    let p = err_from_is_err_and c.from_residual.result c.from_residual.ensures.1 in
    rw (p.1, p.2) (cuts_end c.loop.cuts c.args.count c.loop.counter c.loop.low c.args.to c.in_err-cut.field-0.0.left c.loop.rest.now (each_cut_at c.args.count c.args.from c.args.to c.args.bytes.now) c.loop-test.true c.in_err-cut.ensures c.loop.invariant.read)

pub loop-preserved : goal.loop-preserved
loop-preserved c = record {
  counted = ap length c.push.ensures ∙ omega (arith, length-append c.loop.cuts (c.in_ok-cut.cut ∷ []), c.loop.invariant.counted);
  read =
      rw c.push.ensures (cuts_go c.loop.cuts c.args.count c.loop.counter c.loop.low c.args.to c.loop.rest.now c.in_ok-cut.cut c.in_ok-cut.after.now (each_cut_at c.args.count c.args.from c.args.to c.args.bytes.now) c.loop-test.true c.in_ok-cut.ensures c.loop.invariant.read);
}

pub returns : goal.returns
returns c = cuts_done c.loop.cuts c.args.count c.loop.counter c.loop.low c.args.to c.loop.rest.now (each_cut_at c.args.count c.args.from c.args.to c.args.bytes.now) c.loop-test.false c.loop.invariant.read
