-- The files of the families' currents.
use Rattle.std.specs.Prelude.{◌≡◌, ℕ, false, Some, slice_get}
use Rattle.sv_model.specs.declared.records.Family.{Family}
use Rattle.sv_model.specs.declared.records.SuperVersion.{SuperVersion}
use Rattle.sv_model.specs.declared.records.Version.{Version}
use Rattle.sv_model.specs.Books.{Books}
use Rattle.sv_model.specs.Lists.{In}
use Rattle.sv_model.specs.Named.{numbers_of}
use Rattle.sv_model.specs.Registers.{entry}
use Rattle.sv_model.specs.Steady.{IsCurrent}

-- the number is that of a file of the current of a family that is not dropped
pub record IsCurrentFile (b : Books) (number : ℕ) : Type 0 where
  pub family : ℕ
  pub it : Family
  pub at : slice_get b.families family ≡ Some it
  pub stands : it.dropped ≡ false
  pub serial : ℕ
  pub super : SuperVersion
  pub current : IsCurrent b.tops b.supers family serial super
  pub version : Version
  pub version_at : entry b.versions super.descriptor.version ≡ Some version
  pub has : In number (numbers_of version.files)

-- each family that is not dropped has a current
abbrev pub StandingHaveCurrents : Books → Type 0
StandingHaveCurrents b = (f : ℕ) (it : Family) → slice_get b.families f ≡ Some it → it.dropped ≡ false
    → (s : ℕ) × (x : SuperVersion) × IsCurrent b.tops b.supers f s x
