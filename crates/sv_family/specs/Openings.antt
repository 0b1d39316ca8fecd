-- The families of a store that was kept.
use Rattle.std.specs.Prelude.{◌≡◌, ◌≤◌, Bool, true, false, List, [], ◌∷◌, length, map, replicate, slice_get, Some}
use Rattle.std.specs.Option.{option_map}
use Rattle.sv_model.specs.declared.records.Family.{Family}
use Rattle.sv_model.specs.declared.openings.OpenFamily.{OpenFamily}
use Rattle.sv_model.specs.Families.{InRange, default_name}
use Rattle.sv_model.specs.Lists.{Distinct, Every}
use Rattle.sv_model.specs.declared.limits.TheConstants.{MAX_FAMILIES, MAX_LANES}

-- There are 1 to 16 families with distinct names, the first is `default`, and the options of each are within range.
pub record AreOpen (kept : List OpenFamily) : Type 0 where
  pub most : length kept ≤ MAX_FAMILIES
  pub default : option_map (λ f. f.name) (slice_get kept 0) ≡ Some default_name
  pub names : Distinct (map (λ f. f.name) kept)
  pub options : Every (λ f. InRange f.options) kept

-- a family that is not dropped, of which each lane has a handle, or none has
abbrev pub open_family : Bool → OpenFamily → Family
open_family held f = record { name = f.name; options = f.options; dropped = false; handles = replicate MAX_LANES held }

-- each lane has a handle of the first, and none of another
abbrev pub open_families : List OpenFamily → List Family
open_families [] = []
open_families (f ∷ others) = open_family true f ∷ map (open_family false) others
