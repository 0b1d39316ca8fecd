use Rattle.sv_table.specs.Views.{header_is}
use Rattle.sv_table.proofs.WholeFiles.{head_is}
use Rattle.sv_table.proofs.heads.check.Goals as goal

pub returns-in-Ok-clause-head : goal.returns-in-Ok-clause-head
returns-in-Ok-clause-head c =
    let bytes = c.args.bytes.now in
    let h = header_is c.in-Ok.header in
    let rest = c.in-Ok.field-0-1.now in
    head_is bytes h rest c.head_of.result c.in-Ok.ensures.table c.head_of.ensures
