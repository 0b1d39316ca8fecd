use Rattle.sv_store.proofs.EndedSnapshots.{fewer-live, newest-ended}
use Rattle.sv_store.proofs.closes.end_snapshots.Goals as goal

pub loop-snapshot-smaller : goal.loop-snapshot-smaller
loop-snapshot-smaller c =
    let a = c.loop-snapshot.state.books in
    let b = c.unsnap.new.self.books in
    fewer-live a b c.in-Some.snapshot (newest-ended a b c.in-Some.snapshot c.unsnap.result c.in-Some.ensures c.unsnap.ensures.ended c.unsnap.ensures.refused)
