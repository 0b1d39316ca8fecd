use Rattle.std.proofs.Common.{◌≡◌, ◌<◌, ℕ, true, Some}
use Rattle.std.specs.Prelude.{slice_get}
use Rattle.sv_journal.specs.Calls.{is_live_cut}
use Rattle.sv_journal.proofs.journal.Journal.are_live_cuts.Given as goal

abbrev pub invariant-loop-cut : goal.invariant-loop-cut
invariant-loop-cut l =
    (i x : ℕ) → i < l.cut-index → slice_get l.cuts i ≡ Some x → is_live_cut l.self.writes l.self.snapshots l.fn.family x ≡ true
