use Rattle.std.proofs.Common.{length}
use Rattle.sv_table_bench.proofs.merges.+joined.Given as goal

abbrev pub decreases-joined : goal.decreases-joined
decreases-joined l = length l.tables.now
