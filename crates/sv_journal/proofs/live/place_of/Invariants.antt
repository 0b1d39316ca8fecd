use Rattle.std.proofs.Common.{◌≡◌, ◌<◌, ℕ, Some}
use Rattle.std.specs.Prelude.{slice_get}
use Rattle.sv_journal.specs.declared.live.LiveSnapshot.{LiveSnapshot}
use Rattle.sv_journal.proofs.live.place_of.Given as goal

abbrev pub invariant-loop-place : goal.invariant-loop-place
invariant-loop-place l = (i : ℕ) (r : LiveSnapshot) → i < l.place → slice_get l.live i ≡ Some r → r.id ≡ l.id → ⊥
