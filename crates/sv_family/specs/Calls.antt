-- What the calls leave.
use Rattle.std.specs.Prelude.{◌≡◌, ◌<◌, ℕ, Bool, true, false, List, [], ◌∷◌, ◌++◌, length, Some, slice_get, slice_set, replicate}
use Rattle.sv_model.specs.declared.records.Family.{Family}
use Rattle.sv_model.specs.declared.settings.OptionName.{OptionName}
use Rattle.sv_model.specs.declared.settings.Options.{Options}
use Rattle.sv_model.specs.declared.settings.OptionName.TheVariants.{MemtableRows, MaxImmutable}
use Rattle.sv_model.specs.Families.{first_options}
use Rattle.sv_model.specs.declared.limits.TheConstants.{MAX_LANES}

-- the family that a lane makes: it alone has a handle
abbrev pub new_family : ℕ → List ℕ → Family
new_family lane name = record {
  name = name;
  options = first_options;
  dropped = false;
  handles = slice_set (replicate MAX_LANES false) lane true;
}

-- The lane made a family of this name, which has the next id.
pub record IsCreated (old : List Family) (lane : ℕ) (name : List ℕ) (id : ℕ) (new : List Family) : Type 0 where
  pub next : id ≡ length old
  pub made : new ≡ old ++ new_family lane name ∷ []

-- The family of this id is so. It is changed, and nothing else.
pub record IsChanged (Is : Family → Type 0) (change : Family → Family) (old : List Family) (id : ℕ) (new : List Family) : Type 0 where
  pub it : Family
  pub at : slice_get old id ≡ Some it
  pub was : Is it
  pub changed : new ≡ slice_set old id (change it)

-- the family is not `default`, and the lane has no handle of it
pub record IsFreshTo (lane : ℕ) (families : List Family) (id : ℕ) : Type 0 where
  pub other : 0 < id
  pub it : Family
  pub at : slice_get families id ≡ Some it
  pub none : slice_get it.handles lane ≡ Some false

-- the lane has a handle of the family, or has none
abbrev pub with_handle : ℕ → Bool → Family → Family
with_handle lane held f = record f { handles = slice_set f.handles lane held }

abbrev pub as_dropped : Family → Family
as_dropped f = record f { dropped = true }

abbrev pub with_option : OptionName → ℕ → Options → Options
with_option MemtableRows value o = record o { memtable_rows = value }
with_option MaxImmutable value o = record o { max_immutable = value }

abbrev pub as_set : OptionName → ℕ → Family → Family
as_set option value f = record f { options = with_option option value f.options }

-- the family is dropped
abbrev pub IsGivenUp : Family → Type 0
IsGivenUp f = f.dropped ≡ true

-- no lane has a handle of it
abbrev pub without_handles : Family → Family
without_handles f = record f { handles = replicate MAX_LANES false }
