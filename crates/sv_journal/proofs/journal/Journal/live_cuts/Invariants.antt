use Rattle.std.proofs.Common.{take, map}
use Rattle.sv_laws.specs.Snapping.{AreGathered}
use Rattle.sv_journal.specs.Kept.{snapshot_of}
use Rattle.sv_journal.proofs.journal.Journal.live_cuts.Given as goal

abbrev pub invariant-loop-snapshot : goal.invariant-loop-snapshot
invariant-loop-snapshot l =
    AreGathered l.self.writes l.fn.family l.from l.to l.last (map snapshot_of (take l.snapshot-index l.snapshot-items)) l.cuts
