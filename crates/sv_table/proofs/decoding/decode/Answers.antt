use Rattle.std.proofs.Common.{List, Ok, sym, ap, ◌∙◌}
use Rattle.sv_model.specs.declared.writes.Kept.{Kept}
use Rattle.sv_table.specs.Views.{header_is}
use Rattle.sv_table.proofs.BadFields.{within}
use Rattle.sv_table.proofs.WholeFiles.{bad_file, table_rows, file_is}
use Rattle.sv_table.proofs.decoding.decode.Goals as goal

pub overflow_sub-result : goal.overflow_sub-result
overflow_sub-result c = within c.args.bytes.now c.in-Err.stuck.left c.in-Err.ensures.gives

pub returns-in-Err-clause-refused : goal.returns-in-Err-clause-refused
returns-in-Err-clause-refused c = bad_file c.args.bytes.now c.in-Err.stuck.left c.in-Err.ensures.gives

pub rows_of-requires : goal.rows_of-requires
rows_of-requires c =
    let table = c.in-Ok.ensures.table in
    table.stand

pub returns-in-Ok-rows_of-clause-read : goal.returns-in-Ok-rows_of-clause-read
returns-in-Ok-rows_of-clause-read c =
    let table = c.in-Ok.ensures.table in
    table_rows c.args.bytes.now (header_is c.in-Ok.file.0) c.in-Ok.file.1.now c.from_vec.result table (c.in-Ok-rows_of.ensures ∙ ap (λ (l : List Kept). Ok l) (sym c.from_vec.ensures))

pub returns-in-Err-rows_of-clause-refused : goal.returns-in-Err-rows_of-clause-refused
returns-in-Err-rows_of-clause-refused c =
    let table = c.in-Ok.ensures.table in
    file_is c.args.bytes.now (header_is c.in-Ok.file.0) c.in-Ok.file.1.now table
