use Rattle.sv_state.specs.Follows.{Follows}
use Rattle.sv_store.specs.Ending.{EndsSnapshots}
use Rattle.sv_store.proofs.EndedSnapshots.{live_count}
use Rattle.sv_store.proofs.closes.end_snapshots.Given as goal

abbrev pub invariant-loop-snapshot : goal.invariant-loop-snapshot
invariant-loop-snapshot l = EndsSnapshots l.fn.state.books l.state.books × Follows l.fn.state.books l.state.books

abbrev pub decreases-loop-snapshot : goal.decreases-loop-snapshot
decreases-loop-snapshot l = live_count l.state.books
