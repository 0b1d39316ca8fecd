use Rattle.std.proofs.Common.{◌≡◌, ◌+◌, ◌-◌, ◌++◌, ◌∷◌, [], ℕ, List, Ok, length, subst, sym}
use Rattle.sv_model.specs.declared.writes.Kept.{Kept}
use Rattle.sv_model.specs.TableTextFields.{Seen, Shape}
use Rattle.sv_table.specs.Places.{ArePlaces}
use Rattle.sv_table.specs.Reading.{Entry, entries_in, entry_at, kept_in, kept_of}
use Rattle.sv_table.specs.Views.{header_is, shape_is, entry_is}
use Rattle.sv_table.proofs.FileText.{same_rows}
use Rattle.sv_table.proofs.ItemLoops.{Succeeds, rest_at, never_fails, goes_on, kept_front, kept_goes, kept_done, row_facts}
use Rattle.sv_table.proofs.RowText.{entry_text}
use Rattle.sv_table.proofs.PlaceText.{rests_more, stands, are_more}
use Rattle.sv_table.proofs.places.places_of.Goals as goal

pub unreachable-requires : goal.unreachable-requires
unreachable-requires c =
    let seen : Seen = record { first = c.loop-i.seen.0.now; key = c.loop-i.seen.1.0.now; number = c.loop-i.seen.1.1.0; deleted = c.loop-i.seen.1.1.1.0 } in
    never_fails (shape_is c.shape_of-shape.result) c.args.header.now.count c.loop-i.i seen c.loop-i.rest.now c.in_default.field-0.left c.loop-i-test.true c.loop-i.invariant.stands c.in_default.ensures

pub loop-i-preserved : goal.loop-i-preserved
loop-i-preserved c =
    let shape = shape_is c.shape_of-shape.result in
    let h = header_is c.args.header.now in
    let bytes = c.args.bytes.now in
    let count = c.args.header.now.count in
    let e : Entry = entry_is c.in-Ok.row in
    let rest = c.loop-i.rest.now in
    let after = c.in-Ok.after.now in
    let i = c.loop-i.invariant in
    let total = kept_in h (entries_in h c.args.rows.now) in
    let seen : Seen = record { first = c.loop-i.seen.0.now; key = c.loop-i.seen.1.0.now; number = c.loop-i.seen.1.1.0; deleted = c.loop-i.seen.1.1.1.0 } in
    let facts = row_facts shape _ seen rest e after i.fits c.in-Ok.ensures in
    let here = stands h (count - 1 - c.loop-i.i) seen bytes rest e after i.rests i.fits (subst (λ (s : Shape). entry_at s (count - 1 - c.loop-i.i) seen rest ≡ Ok (e, after)) c.shape_of-shape.ensures c.in-Ok.ensures) in
    record {
      stands = subst (λ (z : Seen). Succeeds (rest_at shape count (c.loop-i.i + 1) z after)) (sym c.see-seen.ensures) (goes_on shape count c.loop-i.i seen rest e after c.loop-i-test.true c.in-Ok.ensures i.stands);
      fits = facts.rest_fits;
      rests = rests_more bytes rest (entry_text shape.format e) after i.rests facts.text;
      rows = i.rows ++ kept_of h e ∷ [];
      are = subst (λ (l : List ℕ). ArePlaces h bytes l (i.rows ++ kept_of h e ∷ [])) (sym c.in_ok-push.ensures.items) (are_more h bytes c.loop-i.places.items i.rows (length bytes - length rest) (kept_of h e) i.are here);
      kept =
          subst (λ (z : Seen). kept_front h (i.rows ++ kept_of h e ∷ []) (rest_at shape count (c.loop-i.i + 1) z after) ≡ total) (sym c.see-seen.ensures)
          (kept_goes h i.rows shape count c.loop-i.i seen rest e after total c.loop-i-test.true c.in-Ok.ensures i.kept);
    }

pub returns : goal.returns
returns c =
    let seen : Seen = record { first = c.loop-i.seen.0.now; key = c.loop-i.seen.1.0.now; number = c.loop-i.seen.1.1.0; deleted = c.loop-i.seen.1.1.1.0 } in
    let h = header_is c.args.header.now in
    let i = c.loop-i.invariant in
    let done = kept_done h i.rows (shape_is c.shape_of-shape.result) c.args.header.now.count c.loop-i.i seen c.loop-i.rest.now (kept_in h (entries_in h c.args.rows.now)) c.loop-i-test.false i.kept in
    λ all e. subst (λ (l : List Kept). ArePlaces h c.args.bytes.now c.loop-i.places.items l) (same_rows h c.args.rows.now i.rows all done e) i.are
