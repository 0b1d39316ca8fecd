-- What the tests keep of a state, so that they may make each call.
use Rattle.std.specs.Prelude.{◌≡◌, ◌⊎◌, ℕ, false, Option, Some, None, slice_get}
use Rattle.sv_model.specs.declared.records.Family.{Family}
use Rattle.sv_model.specs.declared.records.SuperVersion.{SuperVersion}
use Rattle.sv_model.specs.declared.sv_refs.SvRef.{SvRef}
use Rattle.sv_model.specs.Books.{Books}
use Rattle.sv_model.specs.Families.{is_retired}
use Rattle.sv_model.specs.Steady.{IsCurrent, Sound}
use Rattle.sv_objects.specs.declared.bodies.Body.{Body}
use Rattle.sv_state.specs.Currents.{HasCurrentAt}
use Rattle.sv_state.specs.Gone.{IsFree}

-- each family that is not retired has a current
abbrev pub HaveCurrents : Books → Type 0
HaveCurrents b = (f : ℕ) (x : Family) → slice_get b.families f ≡ Some x → is_retired x ≡ false → HasCurrentAt b f

-- the pack, where there is one, is that of a SuperVersion that is current of no family
abbrev pub MayGo : Books → Option ℕ → Type 0
MayGo b None = Unit {0}
MayGo b (Some pack) = IsFree b pack

-- No family's current was ended, and what waits may be cleaned up.
pub record Stands (b : Books) (waiting : Option ℕ) : Type 0 where
  pub sound : Sound b
  pub currents : HaveCurrents b
  pub waits : MayGo b waiting

-- what waits is what waited before, or the SuperVersion of the reference
abbrev pub WaitsFor : Option ℕ → Option (SvRef Body) → Option ℕ → Type 0
WaitsFor old reference new = (new ≡ old) ⊎ ((r : SvRef Body) × (reference ≡ Some r) × (new ≡ Some r.pack))
