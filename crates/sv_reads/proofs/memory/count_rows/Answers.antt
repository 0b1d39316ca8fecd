-- Each row that was added stands there once.
use Rattle.sv_memtable.proofs.FrozenRows.{as_many}
use Rattle.sv_reads.proofs.memory.count_rows.Goals as goal

pub returns : goal.returns
returns c = as_many c.args.frozen.now.rows c.rows.result.now c.rows.ensures
