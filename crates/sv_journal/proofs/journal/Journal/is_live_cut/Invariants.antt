use Rattle.std.proofs.Common.{◌≡◌, ◌≢◌, ◌<◌, ℕ, Some}
use Rattle.std.specs.Prelude.{slice_get, slice_index_or}
use Rattle.sv_journal.specs.declared.live.LiveSnapshot.{LiveSnapshot}
use Rattle.sv_journal.proofs.journal.Journal.is_live_cut.Given as goal

abbrev pub invariant-loop-snapshot : goal.invariant-loop-snapshot
invariant-loop-snapshot l =
    (i : ℕ) (r : LiveSnapshot) → i < l.snapshot-index → slice_get l.snapshot-items i ≡ Some r → slice_index_or r.cuts l.fn.family 0 ≢ l.cut
