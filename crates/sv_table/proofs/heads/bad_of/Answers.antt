use Rattle.sv_table.proofs.BadFields.{within}
use Rattle.sv_table.proofs.WholeFiles.{bad_file}
use Rattle.sv_table.proofs.heads.bad_of.Goals as goal

pub overflow_sub-result : goal.overflow_sub-result
overflow_sub-result c = within c.args.bytes.now c.args.stuck.left c.requires

pub returns : goal.returns
returns c = bad_file c.args.bytes.now c.args.stuck.left c.requires
