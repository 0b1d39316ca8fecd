use Rattle.sv_table.specs.Views.{header_is}
use Rattle.std.proofs.Common.{ℕ, List, ap, ◌∙◌}
use Rattle.sv_table.specs.Lookups.{hit_op, found_in}
use Rattle.sv_table.specs.Reading.{entries_in}
use Rattle.sv_table.proofs.WholeFiles.{has_header, has_rows, found_is}
use Rattle.sv_table.proofs.lookups.find_in.Goals as goal

pub unreachable-requires : goal.unreachable-requires
unreachable-requires c = has_header c.args.bytes.now c.in_default.field-0.left c.requires c.in_default.ensures

pub find_row-requires : goal.find_row-requires
find_row-requires c = has_rows c.args.bytes.now (header_is c.in-Ok.header) c.in-Ok.rows.now c.requires c.in-Ok.ensures

pub returns : goal.returns
returns c =
    let h = header_is c.in-Ok.header in
    let rest = c.in-Ok.rows.now in
    found_is c.args.bytes.now c.args.key.now c.args.cut h rest (hit_op c.find_row.result) c.in-Ok.ensures
    (c.find_row.ensures ∙ ap (λ (k : List ℕ). found_in h k c.args.cut (entries_in h rest)) c.as_bytes.ensures.bytes)
