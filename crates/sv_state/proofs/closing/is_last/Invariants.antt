use Rattle.std.proofs.Common.{◌≡◌, ◌<◌, ℕ, false, Some}
use Rattle.std.specs.Prelude.{slice_get}
use Rattle.sv_model.specs.declared.records.Family.{Family}
use Rattle.sv_model.specs.declared.records.Top.{Top}
use Rattle.sv_model.specs.Families.{is_retired}
use Rattle.sv_state.proofs.closing.is_last.Given as goal

abbrev pub invariant-loop-index : goal.invariant-loop-index
invariant-loop-index l =
    (i : ℕ) (x : Family) (t : Top) → i < l.index → slice_get l.families i ≡ Some x → slice_get l.tops i ≡ Some t → is_retired x ≡ false → t.last ≡ l.version → ⊥
