use Rattle.std.proofs.Common.{◌≡◌, ℕ, List, Ok, Err, length, subst, sym, ap, ◌∙◌}
use Rattle.sv_model.specs.declared.writes.Kept.{Kept}
use Rattle.sv_table.specs.Decoding.{IsTable}
use Rattle.sv_table.specs.Places.{ArePlaces}
use Rattle.sv_table.specs.Reading.{entries_in, file_at, kept_in}
use Rattle.sv_table.specs.Views.{header_is}
use Rattle.sv_table.proofs.BadFields.{within}
use Rattle.sv_table.proofs.WholeFiles.{bad_file, file_is, indexed}
use Rattle.sv_table.proofs.checked.Checked.new.Goals as goal

pub overflow_sub-result : goal.overflow_sub-result
overflow_sub-result c =
    let stuck = subst (λ (z : List ℕ). file_at z ≡ Err c.in-Err.stuck.left) c.as_slice.ensures.value c.in-Err.ensures.gives in
    let len : c.len.result ≡ length c.args.bytes.items = c.len.ensures ∙ sym c.as_slice.ensures.len ∙ ap (λ (z : List ℕ). length z) c.as_slice.ensures.value in
    rw len (within c.args.bytes.items c.in-Err.stuck.left stuck)

pub returns-in-Err-clause-refused : goal.returns-in-Err-clause-refused
returns-in-Err-clause-refused c =
    let stuck = subst (λ (z : List ℕ). file_at z ≡ Err c.in-Err.stuck.left) c.as_slice.ensures.value c.in-Err.ensures.gives in
    let len : c.len.result ≡ length c.args.bytes.items = c.len.ensures ∙ sym c.as_slice.ensures.len ∙ ap (λ (z : List ℕ). length z) c.as_slice.ensures.value in
    rw len (bad_file c.args.bytes.items c.in-Err.stuck.left stuck)

pub places_of-requires-clause-rows : goal.places_of-requires-clause-rows
places_of-requires-clause-rows c = c.in-Ok.ensures.table.stand

pub places_of-requires-clause-last : goal.places_of-requires-clause-last
places_of-requires-clause-last c =
    let table = subst (λ (z : List ℕ). IsTable z (header_is c.in-Ok.file.0) c.in-Ok.file.1.now) (c.as_slice.ensures.value ∙ sym c.as_slice-2.ensures.value) c.in-Ok.ensures.table in
    table.front

pub invariant_of-result : goal.invariant_of-result
invariant_of-result c =
    let h = header_is c.in-Ok.file.0 in
    let rest = c.in-Ok.file.1.now in
    let bytes = c.args.bytes.items in
    let table = subst (λ (z : List ℕ). IsTable z h rest) c.as_slice.ensures.value c.in-Ok.ensures.table in
    indexed bytes h rest c.in-Ok-places_of.places.items table
    (subst (λ (z : List ℕ). (all : List Kept) → kept_in h (entries_in h rest) ≡ Ok all → ArePlaces h z c.in-Ok-places_of.places.items all) c.as_slice-2.ensures.value c.in-Ok-places_of.ensures)

pub returns-in-Ok-places_of-clause-file : goal.returns-in-Ok-places_of-clause-file
returns-in-Ok-places_of-clause-file c =
    let h = header_is c.in-Ok.file.0 in
    let rest = c.in-Ok.file.1.now in
    file_is c.args.bytes.items h rest (subst (λ (z : List ℕ). IsTable z h rest) c.as_slice.ensures.value c.in-Ok.ensures.table)

pub returns-in-Err-places_of-clause-refused : goal.returns-in-Err-places_of-clause-refused
returns-in-Err-places_of-clause-refused c =
    let h = header_is c.in-Ok.file.0 in
    let rest = c.in-Ok.file.1.now in
    file_is c.args.bytes.items h rest (subst (λ (z : List ℕ). IsTable z h rest) c.as_slice.ensures.value c.in-Ok.ensures.table)
