-- The current of a family.
use Rattle.std.specs.Prelude.{◌≡◌, cond, ℕ, true, false, List, Option, Some, None, slice_get}
use Rattle.sv_model.specs.declared.records.Family.{Family}
use Rattle.sv_model.specs.declared.records.Top.{Top}
use Rattle.sv_model.specs.declared.settings.Options.{Options}
use Rattle.sv_model.specs.Books.{Books, files_of}
use Rattle.sv_model.specs.Families.{IsOwn}
use Rattle.sv_model.specs.Lists.{In}
use Rattle.sv_model.specs.Named.{numbers_of}

-- the family was made, and has a current
pub record HasCurrentAt (b : Books) (family : ℕ) : Type 0 where
  pub top : Top
  pub at : slice_get b.tops family ≡ Some top
  pub serial : ℕ
  pub is : top.current ≡ Some serial

-- each family that the lane means by the name has a current
abbrev pub OwnHaveCurrents : Books → ℕ → List ℕ → Type 0
OwnHaveCurrents b lane name = (f : ℕ) (x : Family) → slice_get b.families f ≡ Some x → IsOwn lane name x → HasCurrentAt b f

-- the family was made and is not dropped
pub record StandsAt (b : Books) (family : ℕ) : Type 0 where
  pub it : Family
  pub at : slice_get b.families family ≡ Some it
  pub stands : it.dropped ≡ false
  pub top : Top
  pub on : slice_get b.tops family ≡ Some top

-- the file of this number is one of the last Version of a family that is not dropped
pub record IsShownFile (b : Books) (number : ℕ) : Type 0 where
  pub family : ℕ
  pub stands : StandsAt b family
  pub has : In number (numbers_of (files_of b.versions stands.top.last))

-- the name and the options of a family that is not dropped
abbrev pub kept_of : Option Family → Option (List ℕ × Options)
kept_of (Some f) = cond f.dropped None (Some (f.name, f.options))
kept_of None = None

-- the family has a current and is not dropped
pub record CanEnd (b : Books) (family : ℕ) : Type 0 where
  pub it : Family
  pub at : slice_get b.families family ≡ Some it
  pub stands : it.dropped ≡ false
  pub current : HasCurrentAt b family

-- the family has a current and is dropped
pub record CanRetire (b : Books) (family : ℕ) : Type 0 where
  pub it : Family
  pub at : slice_get b.families family ≡ Some it
  pub gone : it.dropped ≡ true
  pub current : HasCurrentAt b family
