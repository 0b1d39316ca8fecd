use Rattle.std.proofs.Common.{ℕ, List, Ok, ◌≡◌, subst, drop, arith}
use Rattle.sv_table.specs.Reading.{entry_at}
use Rattle.sv_table.specs.Views.{header_is, shape_is, seen_is, entry_is}
use Rattle.sv_table.proofs.ItemLoops.{row_facts, within_cuts}
use Rattle.sv_table.proofs.PlaceText.{bytes_from, slice_rest}
use Rattle.sv_table.proofs.places.row_of.Goals as goal

pub returns-clause-number : goal.returns-clause-number
returns-clause-number c =
    let bytes = c.args.bytes.now in
    let place = c.args.place in
    let shape = shape_is c.shape_of.result in
    let seen = seen_is c.start.result in
    let reads = subst (λ (z : List ℕ). entry_at shape 1 seen z ≡ Ok (entry_is c.in-Ok.row, c.in-Ok.field-0-1.now)) (slice_rest place bytes) c.in-Ok.ensures in
    let facts = row_facts shape 1 seen (drop place bytes) (entry_is c.in-Ok.row) c.in-Ok.field-0-1.now (bytes_from place bytes (λ i. omega (arith, c.type_inv.bytes i))) reads in
    within_cuts (header_is c.args.header.now) shape _ _ _ c.shape_of.ensures facts
