use Rattle.std.proofs.Common.{sym, ◌∙◌, arith}
use Rattle.sv_table.specs.Views.{header_is, seen_is}
use Rattle.sv_table.proofs.WholeFiles.{file_reads, table_is}
use Rattle.sv_table.proofs.walks.file_for.Goals as goal

pub returns-clause-table : goal.returns-clause-table
returns-clause-table c =
    let bytes = c.args.bytes.now in
    let h = header_is c.in-Ok.read.0 in
    let rows = c.in-Ok.read.1.now in
    let reads = file_reads bytes h rows (seen_is c.in_ok-seen.seen) c.in_ok-seen.after_rows.now c.in_ok-seen.seen.key.now c.in_ok-rest.rest.now c.in-Ok.ensures c.in_ok-seen.ensures.gives c.in_ok-rest.ensures (sym c.is_empty.ensures ∙ c.if-not-is_empty.false) in
    table_is bytes h rows (λ i. omega (arith, c.type_inv.bytes i)) reads
