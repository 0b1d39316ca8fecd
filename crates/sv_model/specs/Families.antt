-- The families by id, from 0: their names, options and handles.
use Rattle.std.specs.Prelude.{◌≡◌, ◌≤◌, ◌<◌, ℕ, Bool, true, false, ◌==◌, ◌&&◌, List, Some, length, slice_get, replicate, codes}
use Rattle.sv_model.specs.declared.records.Family.{Family}
use Rattle.sv_model.specs.declared.settings.Options.{Options}
use Rattle.sv_model.specs.declared.settings.OptionName.{OptionName}
use Rattle.sv_model.specs.declared.settings.OptionName.TheVariants.{MemtableRows, MaxImmutable}
use Rattle.sv_model.specs.Lists.{bit, total}
use Rattle.sv_model.specs.declared.limits.TheConstants.{MAX_FAMILIES, MAX_LANES, MAX_ROWS}

-- ---- options

-- those of a new family
abbrev pub first_options : Options
first_options = record { memtable_rows = 1024; max_immutable = 2 }

-- the greatest value of an option; the least is 1
abbrev pub greatest_of : OptionName → ℕ
greatest_of MemtableRows = MAX_ROWS
greatest_of MaxImmutable = 8

pub record InRange (o : Options) : Type 0 where
  pub rows_least : 1 ≤ o.memtable_rows
  pub rows_most : o.memtable_rows ≤ MAX_ROWS
  pub lists_least : 1 ≤ o.max_immutable
  pub lists_most : o.max_immutable ≤ 8

-- ---- handles and names

-- the lane has a handle of the family
abbrev pub HasHandle : ℕ → Family → Type 0
HasHandle lane f = slice_get f.handles lane ≡ Some true

-- what the lane means by the name: the family of that name of which it has a handle
pub record IsOwn (lane : ℕ) (name : List ℕ) (f : Family) : Type 0 where
  pub name_is : f.name ≡ name
  pub handle : HasHandle lane f

-- the family has the name, and is not dropped
pub record IsStanding (name : List ℕ) (f : Family) : Type 0 where
  pub name_is : f.name ≡ name
  pub stands : f.dropped ≡ false

-- what the lane means by the name, where that is not dropped
pub record IsOwnStanding (lane : ℕ) (name : List ℕ) (f : Family) : Type 0 where
  pub own : IsOwn lane name f
  pub stands : f.dropped ≡ false

-- dropped, and no lane has a handle of it
abbrev pub is_retired : Family → Bool
is_retired f = f.dropped && (total bit f.handles == 0)

-- ---- what always holds

abbrev pub default_name : List ℕ
default_name = codes "default"

-- the family with which a database begins
abbrev pub default_family : Family
default_family = record { name = default_name; options = first_options; dropped = false; handles = replicate MAX_LANES true }

pub record IsDefault (families : List Family) : Type 0 where
  pub it : Family
  pub at : slice_get families 0 ≡ Some it
  pub name_is : it.name ≡ default_name
  pub stands : it.dropped ≡ false

-- at most one of the families is so
abbrev pub AtMostOne : (Family → Type 0) → List Family → Type 0
AtMostOne Is families =
    (f g : ℕ) (x y : Family) → slice_get families f ≡ Some x → slice_get families g ≡ Some y → Is x → Is y → f ≡ g

-- each of the families is so
abbrev pub Each : (Family → Type 0) → List Family → Type 0
Each Is families = (f : ℕ) (x : Family) → slice_get families f ≡ Some x → Is x

pub record AreFamilies (families : List Family) : Type 0 where
  pub few : length families ≤ MAX_FAMILIES
  pub default : IsDefault families
  -- each lane has a handle of the default family
  pub home : (lane : ℕ) (x : Family) → lane < MAX_LANES → slice_get families 0 ≡ Some x → HasHandle lane x
  -- a name stands for one family, to all lanes and to each
  pub distinct : (name : List ℕ) → AtMostOne (IsStanding name) families
  pub meant : (lane : ℕ) (name : List ℕ) → AtMostOne (IsOwn lane name) families
  pub options : Each (λ f. InRange f.options) families
  pub lanes : Each (λ f. length f.handles ≡ MAX_LANES) families
