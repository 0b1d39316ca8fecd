use Rattle.std.proofs.Common.{◌≡◌, ◌+◌, subst, sym, ap, ◌∙◌, arith}
use Rattle.sv_model.specs.TableTextFields.{Seen}
use Rattle.sv_table.specs.Reading.{Entry, entries_in}
use Rattle.sv_table.specs.Views.{header_is, shape_is, entry_is}
use Rattle.sv_table.specs.Lookups.{found_in}
use Rattle.sv_table.proofs.ItemLoops.{Succeeds, rest_at, begins, never_fails, goes_on, find_goes, find_hits, find_ends, row_facts, within_cuts}
use Rattle.sv_table.proofs.lookups.find_row.Goals as goal

pub loop-i-init : goal.loop-i-init
loop-i-init c =
    let rows = begins (header_is c.args.header.now) (shape_is c.shape_of-shape.result) _ c.args.bytes.now c.shape_of-shape.ensures c.start-seen.ensures in
    record {
      stands = record { value = (c.requires.entries, c.requires.rest); is = rows ∙ c.requires.are };
      fits = λ i. omega (arith, c.type_inv.bytes i);
      found = ap (found_in (header_is c.args.header.now) c.args.key.now c.args.cut) rows;
    }

pub unreachable-requires : goal.unreachable-requires
unreachable-requires c =
    let seen : Seen = record { first = c.loop-i.seen.0.now; key = c.loop-i.seen.1.0.now; number = c.loop-i.seen.1.1.0; deleted = c.loop-i.seen.1.1.1.0 } in
    never_fails (shape_is c.shape_of-shape.result) c.args.header.now.count c.loop-i.i seen c.loop-i.rest.now c.in_default.field-0.left c.loop-i-test.true c.loop-i.invariant.stands c.in_default.ensures

pub answers-requires : goal.answers-requires
answers-requires c =
    let seen : Seen = record { first = c.loop-i.seen.0.now; key = c.loop-i.seen.1.0.now; number = c.loop-i.seen.1.1.0; deleted = c.loop-i.seen.1.1.1.0 } in
    let facts = row_facts (shape_is c.shape_of-shape.result) _ seen c.loop-i.rest.now (entry_is c.in-Ok.row) c.in-Ok.after.now c.loop-i.invariant.fits c.in-Ok.ensures in
    within_cuts (header_is c.args.header.now) (shape_is c.shape_of-shape.result) _ _ _ c.shape_of-shape.ensures facts

pub returns-then-answers : goal.returns-then-answers
returns-then-answers c =
    let seen : Seen = record { first = c.loop-i.seen.0.now; key = c.loop-i.seen.1.0.now; number = c.loop-i.seen.1.1.0; deleted = c.loop-i.seen.1.1.1.0 } in
    find_hits (header_is c.args.header.now) c.args.key.now c.args.cut (shape_is c.shape_of-shape.result) c.args.header.now.count c.loop-i.i seen c.loop-i.rest.now (entry_is c.in-Ok.row) c.in-Ok.after.now
    (found_in (header_is c.args.header.now) c.args.key.now c.args.cut (entries_in (header_is c.args.header.now) c.args.bytes.now)) c.loop-i-test.true c.in-Ok.ensures c.loop-i.invariant.stands (sym c.answers.ensures ∙ c.if-answers.true) c.loop-i.invariant.found

pub loop-i-preserved : goal.loop-i-preserved
loop-i-preserved c =
    let shape = shape_is c.shape_of-shape.result in
    let count = c.args.header.now.count in
    let e : Entry = entry_is c.in-Ok.row in
    let after = c.in-Ok.after.now in
    let total = found_in (header_is c.args.header.now) c.args.key.now c.args.cut (entries_in (header_is c.args.header.now) c.args.bytes.now) in
    let seen : Seen = record { first = c.loop-i.seen.0.now; key = c.loop-i.seen.1.0.now; number = c.loop-i.seen.1.1.0; deleted = c.loop-i.seen.1.1.1.0 } in
    let facts = row_facts shape _ seen c.loop-i.rest.now e after c.loop-i.invariant.fits c.in-Ok.ensures in
    record {
      stands = subst (λ (z : Seen). Succeeds (rest_at shape count (c.loop-i.i + 1) z after)) (sym c.see-seen.ensures) (goes_on shape count c.loop-i.i seen c.loop-i.rest.now e after c.loop-i-test.true c.in-Ok.ensures c.loop-i.invariant.stands);
      fits = facts.rest_fits;
      found =
          subst (λ (z : Seen). found_in (header_is c.args.header.now) c.args.key.now c.args.cut (rest_at shape count (c.loop-i.i + 1) z after) ≡ total) (sym c.see-seen.ensures)
          (find_goes (header_is c.args.header.now) c.args.key.now c.args.cut shape count c.loop-i.i seen c.loop-i.rest.now e after total c.loop-i-test.true c.in-Ok.ensures (sym c.answers.ensures ∙ c.if-answers.false) c.loop-i.invariant.found);
    }

pub returns : goal.returns
returns c =
    let seen : Seen = record { first = c.loop-i.seen.0.now; key = c.loop-i.seen.1.0.now; number = c.loop-i.seen.1.1.0; deleted = c.loop-i.seen.1.1.1.0 } in
    find_ends (header_is c.args.header.now) c.args.key.now c.args.cut (shape_is c.shape_of-shape.result) c.args.header.now.count c.loop-i.i seen c.loop-i.rest.now
    (found_in (header_is c.args.header.now) c.args.key.now c.args.cut (entries_in (header_is c.args.header.now) c.args.bytes.now)) c.loop-i-test.false c.loop-i.invariant.found
