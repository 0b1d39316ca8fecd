-- The files that a lane with a hold is told of.
use Rattle.std.specs.Prelude.{◌≡◌, ◌↔◌, ℕ, false, List, Some, slice_get}
use Rattle.std.specs.List.Sorted.{IsStrictlyIncreasing}
use Rattle.sv_model.specs.declared.records.Family.{Family}
use Rattle.sv_model.specs.declared.records.SuperVersion.{SuperVersion}
use Rattle.sv_model.specs.declared.records.Version.{Version}
use Rattle.sv_model.specs.Books.{Books}
use Rattle.sv_model.specs.Lists.{In}
use Rattle.sv_model.specs.Named.{numbers_of}
use Rattle.sv_model.specs.Registers.{entry}
use Rattle.sv_model.specs.Steady.{IsCurrent}

-- the number is that of a file of the current Version of a family that is not dropped
pub record IsCurrentFile (b : Books) (n : ℕ) : Type 0 where
  pub family : ℕ
  pub it : Family
  pub at : slice_get b.families family ≡ Some it
  pub stands : it.dropped ≡ false
  pub s : ℕ
  pub x : SuperVersion
  pub current : IsCurrent b.tops b.supers family s x
  pub version : Version
  pub version_at : entry b.versions x.descriptor.version ≡ Some version
  pub has : In n (numbers_of version.files)

-- the numbers are just these, ascending
pub record AreCurrentFiles (b : Books) (numbers : List ℕ) : Type 0 where
  pub rising : IsStrictlyIncreasing numbers
  pub exact : (n : ℕ) → In n numbers ↔ IsCurrentFile b n

-- the family has a current SuperVersion
pub record HasCurrentOf (b : Books) (f : ℕ) : Type 0 where
  pub s : ℕ
  pub x : SuperVersion
  pub current : IsCurrent b.tops b.supers f s x

-- each family that is not dropped has one
abbrev pub StandingHaveCurrents : Books → Type 0
StandingHaveCurrents b = (f : ℕ) (y : Family) → slice_get b.families f ≡ Some y → y.dropped ≡ false → HasCurrentOf b f
