use Rattle.std.proofs.Common.{drop, take}
use Rattle.sv_store.proofs.RemovalSteps.{dir_seen}
use Rattle.sv_store.proofs.ScanSteps.{ScannedUpTo}
use Rattle.sv_store.proofs.scans.remove_listed.Given as goal

abbrev pub invariant-loop-number : goal.invariant-loop-number
invariant-loop-number g l =
    ScannedUpTo l.fn.state l.state (dir_seen (g.D.Dir.files l.fn.dir) (g.D.Dir.files l.dir) (g.D.Dir.faults l.fn.dir) (g.D.Dir.faults l.dir)) l.listed l.numbers
    (take l.number-index l.numbers) (drop l.number-index l.numbers) l.refused
