use Rattle.std.proofs.Common.{◌≡◌, ◌+◌, Option, subst, sym, ap, arith}
use Rattle.std.proofs.lemmas.Result.{err_from_is_err_and}
use Rattle.sv_model.specs.declared.writes.Op.{Op}
use Rattle.sv_model.specs.TableTextFields.{Seen, start}
use Rattle.sv_table.specs.Lookups.{hit_op, found_in, found_then}
use Rattle.sv_table.specs.Reading.{Entry, walked, entries_in}
use Rattle.sv_table.specs.Views.{header_is, shape_is, entry_is}
use Rattle.sv_table.proofs.FoundFirst.{first_goes, first_done}
use Rattle.sv_table.proofs.ItemLoops.{Succeeds, rest_at, begins, walk_goes, walk_fails, walk_done, row_facts, within_cuts}
use Rattle.sv_table.proofs.walks.walk.Goals as goal

pub loop-i-init : goal.loop-i-init
loop-i-init c =
    let first = c.start-seen.ensures in
    let h = header_is c.args.header.now in
    let rows = begins h (shape_is c.shape_of-shape.result) _ c.args.bytes.now c.shape_of-shape.ensures first in
    record {
      fits = λ i. omega (arith, c.type_inv.bytes i);
      walks = λ i. walked (first i) (rows i);
      first = λ s. ap (found_in h c.args.key.now c.args.cut) rows;
    }

pub returns-in_err-row-clause-gives : goal.returns-in_err-row-clause-gives
returns-in_err-row-clause-gives c =
    let p = err_from_is_err_and c.from_residual.result c.from_residual.ensures.1 in
    let seen : Seen = record { first = c.loop-i.seen.0.now; key = c.loop-i.seen.1.0.now; number = c.loop-i.seen.1.1.0; deleted = c.loop-i.seen.1.1.1.0 } in
    rw (p.1, p.2) (walk_fails (shape_is c.shape_of-shape.result) c.args.header.now.count c.loop-i.i seen c.loop-i.rest.now c.in_err-row.field-0.0.left (walked start (entries_in (header_is c.args.header.now) c.args.bytes.now)) c.loop-i-test.true c.in_err-row.ensures c.loop-i.invariant.walks)

pub first_hit-found-requires : goal.first_hit-found-requires
first_hit-found-requires c =
    let seen : Seen = record { first = c.loop-i.seen.0.now; key = c.loop-i.seen.1.0.now; number = c.loop-i.seen.1.1.0; deleted = c.loop-i.seen.1.1.1.0 } in
    let shape = shape_is c.shape_of-shape.result in
    let facts = row_facts shape _ seen c.loop-i.rest.now (entry_is c.in_ok-row.row) c.in_ok-row.after.now c.loop-i.invariant.fits c.in_ok-row.ensures in
    within_cuts (header_is c.args.header.now) shape _ _ _ c.shape_of-shape.ensures facts

pub loop-i-preserved : goal.loop-i-preserved
loop-i-preserved c =
    let shape = shape_is c.shape_of-shape.result in
    let h = header_is c.args.header.now in
    let count = c.args.header.now.count in
    let key = c.args.key.now in
    let cut = c.args.cut in
    let all = entries_in h c.args.bytes.now in
    let e : Entry = entry_is c.in_ok-row.row in
    let after = c.in_ok-row.after.now in
    let i = c.loop-i.invariant in
    let seen : Seen = record { first = c.loop-i.seen.0.now; key = c.loop-i.seen.1.0.now; number = c.loop-i.seen.1.1.0; deleted = c.loop-i.seen.1.1.1.0 } in
    let facts = row_facts shape _ seen c.loop-i.rest.now e after i.fits c.in_ok-row.ensures in
    let goes = first_goes h key cut shape count c.loop-i.i seen c.loop-i.rest.now (hit_op c.loop-i.found) (found_in h key cut all) i.first e after c.loop-i-test.true c.in_ok-row.ensures in
    record {
      fits = facts.rest_fits;
      walks =
          subst (λ (z : Seen). walked z (rest_at shape count (c.loop-i.i + 1) z after) ≡ walked start all) (sym c.see-seen.ensures)
          (walk_goes shape count c.loop-i.i seen c.loop-i.rest.now e after (walked start all) c.loop-i-test.true c.in_ok-row.ensures i.walks);
      first =
          subst (λ (z : Option Op × Seen). Succeeds (rest_at shape count (c.loop-i.i + 1) z.1 after) → found_then z.0 (found_in h key cut (rest_at shape count (c.loop-i.i + 1) z.1 after)) ≡ found_in h key cut all)
          (λ j. (sym c.first_hit-found.ensures j, sym c.see-seen.ensures j)) goes;
    }

pub returns-clause-gives : goal.returns-clause-gives
returns-clause-gives c =
    let seen : Seen = record { first = c.loop-i.seen.0.now; key = c.loop-i.seen.1.0.now; number = c.loop-i.seen.1.1.0; deleted = c.loop-i.seen.1.1.1.0 } in
    walk_done (shape_is c.shape_of-shape.result) c.args.header.now.count c.loop-i.i seen c.loop-i.rest.now (walked start (entries_in (header_is c.args.header.now) c.args.bytes.now)) c.loop-i-test.false c.loop-i.invariant.walks

pub returns-clause-found : goal.returns-clause-found
returns-clause-found c =
    let seen : Seen = record { first = c.loop-i.seen.0.now; key = c.loop-i.seen.1.0.now; number = c.loop-i.seen.1.1.0; deleted = c.loop-i.seen.1.1.1.0 } in
    let h = header_is c.args.header.now in
    let total = found_in h c.args.key.now c.args.cut (entries_in h c.args.bytes.now) in
    first_done h c.args.key.now c.args.cut (shape_is c.shape_of-shape.result) c.args.header.now.count c.loop-i.i seen c.loop-i.rest.now (hit_op c.loop-i.found) total c.loop-i.invariant.first c.loop-i-test.false
