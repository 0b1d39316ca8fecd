use Rattle.std.proofs.Common.{◌≡◌, List, ℕ, ap, ◌∙◌}
use Rattle.sv_table.specs.Lookups.{hit_op, found_in}
use Rattle.sv_table.specs.Reading.{entries_in}
use Rattle.sv_table.specs.Views.{header_is}
use Rattle.sv_table.proofs.WholeFiles.{found_read, head_is}
use Rattle.sv_table.proofs.heads.check_and_find.Goals as goal

pub returns-in-Ok-clause-head : goal.returns-in-Ok-clause-head
returns-in-Ok-clause-head c =
    let bytes = c.args.bytes.now in
    let h = header_is c.in-Ok.header in
    let rest = c.in-Ok.field-0-1.now in
    head_is bytes h rest c.head_of.result c.in-Ok.ensures.table c.head_of.ensures

pub returns-in-Ok-clause-found : goal.returns-in-Ok-clause-found
returns-in-Ok-clause-found c =
    let h = header_is c.in-Ok.header in
    let rest = c.in-Ok.field-0-1.now in
    found_read c.args.bytes.now c.args.key.now c.args.cut h rest (hit_op c.in-Ok.found) c.in-Ok.ensures.table
    (c.in-Ok.ensures.found ∙ ap (λ (k : List ℕ). found_in h k c.args.cut (entries_in h rest)) c.as_bytes.ensures.bytes)
