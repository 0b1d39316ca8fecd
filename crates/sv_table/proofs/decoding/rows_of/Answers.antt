use Rattle.std.proofs.Common.{◌≡◌, ◌+◌, ◌++◌, ◌∷◌, [], List, subst, sym, ap, ◌∙◌}
use Rattle.sv_model.specs.TableTextFields.{Seen}
use Rattle.sv_table.specs.Reading.{Entry, entries_in, kept_in, kept_of, see_entry}
use Rattle.sv_table.specs.Views.{header_is, shape_is, entry_is}
use Rattle.sv_model.specs.declared.writes.Kept.{Kept}
use Rattle.sv_table.proofs.ItemLoops.{Succeeds, rest_at, never_fails, goes_on, kept_front, kept_goes, kept_done, row_facts, within_cuts}
use Rattle.sv_table.proofs.decoding.rows_of.Goals as goal

pub unreachable-requires : goal.unreachable-requires
unreachable-requires c =
    let seen : Seen = record { first = c.loop-i.seen.0.now; key = c.loop-i.seen.1.0.now; number = c.loop-i.seen.1.1.0; deleted = c.loop-i.seen.1.1.1.0 } in
    never_fails (shape_is c.shape_of-shape.result) c.args.header.now.count c.loop-i.i seen c.loop-i.rest.now c.in_default.field-0.left c.loop-i-test.true c.loop-i.invariant.stands c.in_default.ensures

pub kept_of-requires-clause-least : goal.kept_of-requires-clause-least
kept_of-requires-clause-least c =
    let seen : Seen = record { first = c.loop-i.seen.0.now; key = c.loop-i.seen.1.0.now; number = c.loop-i.seen.1.1.0; deleted = c.loop-i.seen.1.1.1.0 } in
    let facts = row_facts (shape_is c.shape_of-shape.result) _ seen c.loop-i.rest.now (entry_is c.in-Ok.row) c.in-Ok.after.now c.loop-i.invariant.fits c.in-Ok.ensures in
    facts.least

pub kept_of-requires-clause-greatest : goal.kept_of-requires-clause-greatest
kept_of-requires-clause-greatest c =
    let seen : Seen = record { first = c.loop-i.seen.0.now; key = c.loop-i.seen.1.0.now; number = c.loop-i.seen.1.1.0; deleted = c.loop-i.seen.1.1.1.0 } in
    let facts = row_facts (shape_is c.shape_of-shape.result) _ seen c.loop-i.rest.now (entry_is c.in-Ok.row) c.in-Ok.after.now c.loop-i.invariant.fits c.in-Ok.ensures in
    facts.greatest

pub kept_of-requires-clause-op : goal.kept_of-requires-clause-op
kept_of-requires-clause-op c =
    let seen : Seen = record { first = c.loop-i.seen.0.now; key = c.loop-i.seen.1.0.now; number = c.loop-i.seen.1.1.0; deleted = c.loop-i.seen.1.1.1.0 } in
    let facts = row_facts (shape_is c.shape_of-shape.result) _ seen c.loop-i.rest.now (entry_is c.in-Ok.row) c.in-Ok.after.now c.loop-i.invariant.fits c.in-Ok.ensures in
    facts.op

pub kept_of-requires-clause-number : goal.kept_of-requires-clause-number
kept_of-requires-clause-number c =
    let seen : Seen = record { first = c.loop-i.seen.0.now; key = c.loop-i.seen.1.0.now; number = c.loop-i.seen.1.1.0; deleted = c.loop-i.seen.1.1.1.0 } in
    let facts = row_facts (shape_is c.shape_of-shape.result) _ seen c.loop-i.rest.now (entry_is c.in-Ok.row) c.in-Ok.after.now c.loop-i.invariant.fits c.in-Ok.ensures in
    within_cuts (header_is c.args.header.now) (shape_is c.shape_of-shape.result) _ _ _ c.shape_of-shape.ensures facts

pub loop-i-preserved : goal.loop-i-preserved
loop-i-preserved c =
    let shape = shape_is c.shape_of-shape.result in
    let h = header_is c.args.header.now in
    let count = c.args.header.now.count in
    let e : Entry = entry_is c.in-Ok.row in
    let after = c.in-Ok.after.now in
    let total = kept_in h (entries_in h c.args.bytes.now) in
    let seen : Seen = record { first = c.loop-i.seen.0.now; key = c.loop-i.seen.1.0.now; number = c.loop-i.seen.1.1.0; deleted = c.loop-i.seen.1.1.1.0 } in
    let facts = row_facts shape _ seen c.loop-i.rest.now e after c.loop-i.invariant.fits c.in-Ok.ensures in
    let items : c.push.new.self.items ≡ c.loop-i.rows.items ++ kept_of h e ∷ [] = c.in_ok-push.ensures.items ∙ ap (λ (k : Kept). c.loop-i.rows.items ++ k ∷ []) c.in_ok-kept_of.ensures in
    record {
      stands = subst (λ (z : Seen). Succeeds (rest_at shape count (c.loop-i.i + 1) z after)) (sym c.see-seen.ensures) (goes_on shape count c.loop-i.i seen c.loop-i.rest.now e after c.loop-i-test.true c.in-Ok.ensures c.loop-i.invariant.stands);
      fits = facts.rest_fits;
      kept =
          subst (λ (z : Seen). kept_front h c.push.new.self.items (rest_at shape count (c.loop-i.i + 1) z after) ≡ total) (sym c.see-seen.ensures)
          (subst (λ (l : List Kept). kept_front h l (rest_at shape count (c.loop-i.i + 1) (see_entry seen e) after) ≡ total) (sym items)
          (kept_goes h c.loop-i.rows.items shape count c.loop-i.i seen c.loop-i.rest.now e after total c.loop-i-test.true c.in-Ok.ensures c.loop-i.invariant.kept));
    }

pub returns : goal.returns
returns c =
    let seen : Seen = record { first = c.loop-i.seen.0.now; key = c.loop-i.seen.1.0.now; number = c.loop-i.seen.1.1.0; deleted = c.loop-i.seen.1.1.1.0 } in
    let h = header_is c.args.header.now in
    kept_done h c.loop-i.rows.items (shape_is c.shape_of-shape.result) c.args.header.now.count c.loop-i.i seen c.loop-i.rest.now (kept_in h (entries_in h c.args.bytes.now)) c.loop-i-test.false c.loop-i.invariant.kept
