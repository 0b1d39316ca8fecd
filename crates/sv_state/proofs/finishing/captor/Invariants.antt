use Rattle.std.proofs.Common.{◌≡◌, ◌<◌, ℕ, Some}
use Rattle.std.specs.Prelude.{slice_get}
use Rattle.sv_state.proofs.finishing.captor.Given as goal

abbrev pub invariant-loop-index : goal.invariant-loop-index
invariant-loop-index l = (f : ℕ) → f < l.index → slice_get l.files.captured f ≡ Some (Some l.number) → ⊥
