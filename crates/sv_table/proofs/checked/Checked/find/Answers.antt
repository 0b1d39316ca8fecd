use Rattle.std.proofs.Common.{◌≡◌, ℕ, List, subst}
use Rattle.sv_model.specs.declared.writes.Kept.{Kept}
use Rattle.sv_model.specs.Order.{OrderedBy, key_of_kept, end_of_kept}
use Rattle.sv_table.specs.Lookups.{IsFoundIn, hit_op, op_upto}
use Rattle.sv_table.specs.Places.{ArePlaces}
use Rattle.sv_table.specs.Views.{header_is}
use Rattle.sv_table.proofs.WholeFiles.{found_by_places}
use Rattle.sv_table.proofs.checked.Checked.find.Goals as goal

pub returns : goal.returns
returns c =
    let s = c.self.inside in
    let h = header_is s.header in
    let found = hit_op c.find_row.result in
    let answers : (rows : List Kept) → ArePlaces h s.bytes.items s.places.items rows → OrderedBy key_of_kept end_of_kept rows → found ≡ op_upto c.args.key.now c.args.cut rows =
    subst (λ (z : List ℕ × List ℕ × List ℕ). (rows : List Kept) → ArePlaces h z.0 z.1 rows → OrderedBy key_of_kept end_of_kept rows → found ≡ op_upto z.2 c.args.cut rows)
    (λ i. (c.as_slice.ensures.value i, c.as_slice-2.ensures.value i, c.as_bytes.ensures.bytes i)) c.find_row.ensures in
    subst (λ (z : List ℕ). IsFoundIn z c.args.key.now c.args.cut found) c.self.view_is (found_by_places h s.bytes.items s.places.items c.args.key.now c.args.cut found c.self.invariant answers)
