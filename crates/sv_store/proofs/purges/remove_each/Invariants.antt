use Rattle.std.proofs.Common.{take}
use Rattle.sv_store.proofs.PurgeSteps.{PurgedUpTo}
use Rattle.sv_store.proofs.RemovalSteps.{dir_seen}
use Rattle.sv_store.proofs.purges.remove_each.Given as goal

abbrev pub invariant-loop-number : goal.invariant-loop-number
invariant-loop-number g l =
    PurgedUpTo l.fn.state l.state (dir_seen (g.D.Dir.files l.fn.dir) (g.D.Dir.files l.dir) (g.D.Dir.faults l.fn.dir) (g.D.Dir.faults l.dir)) (take l.number-index l.ready) l.refused
