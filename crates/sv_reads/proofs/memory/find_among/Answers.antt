-- The first row of the key whose number is at most this is the newest among so many.
use Rattle.std.proofs.Common.{Some, None, refl}
use Rattle.sv_memtable.proofs.FrozenRows.{op_upto}
use Rattle.sv_reads.proofs.memory.find_among.Goals as goal

pub returns-in-Some : goal.returns-in-Some
returns-in-Some c = op_upto c.args.frozen.now.rows c.rows.result.now c.rows.ensures c.args.key.now c.args.upto
    c.args.upto c.rows.result.now (Some c.in-Some.numbered.now) refl refl c.in-Some.ensures

pub returns-in-None : goal.returns-in-None
returns-in-None c = op_upto c.args.frozen.now.rows c.rows.result.now c.rows.ensures c.args.key.now c.args.upto
    c.args.upto c.rows.result.now None refl refl c.in-None.ensures
