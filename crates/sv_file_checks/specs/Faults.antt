-- Failures of the directory that a call told.
use Rattle.std.specs.Prelude.{◌≤◌, ℕ, Result, Ok, Err}
use Rattle.sv_model.specs.declared.refusals.Refusal.{Refusal}
use Rattle.sv_model.specs.declared.refusals.Refusal.TheVariants as refusal
use Rattle.sv_model.specs.Faults.{RoseBy}

-- 1 where the refusal says that the directory failed
abbrev pub faults_told : Refusal → ℕ
faults_told (refusal.DirFault number) = 1
faults_told e = 0

abbrev pub fault_of : {T : Type 0} → Result T Refusal → ℕ
fault_of (Ok x) = 0
fault_of (Err e) = faults_told e

-- The directory's count of its failures never falls, and it rose where the call says that the directory failed.
pub record CountsFault {T : Type 0} (result : Result T Refusal) (before now : ℕ) : Type 0 where
  pub later : before ≤ now
  pub rose : RoseBy (fault_of result) before now
