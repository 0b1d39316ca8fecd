-- Which refusal each call meets.
use Rattle.std.specs.Prelude.{◌&&◌, ℕ, Bool, cond, not, nat_le, List, [], ◌∷◌, length, slice_index_or, false, Option, Some, None}
use Rattle.std.specs.List.{list_any}
use Rattle.std.specs.Str.{bytes_eq}
use Rattle.sv_model.specs.declared.records.Family.{Family}
use Rattle.sv_model.specs.declared.settings.OptionName.{OptionName}
use Rattle.sv_model.specs.declared.refusals.Refusal.{Refusal}
use Rattle.sv_model.specs.declared.refusals.Refusal.TheVariants as refusal
use Rattle.sv_model.specs.declared.limits.TheConstants.{MAX_FAMILIES}
use Rattle.sv_model.specs.Families.{default_name, greatest_of}
use Rattle.sv_model.specs.Refusals.{first_due}

-- ---- tests of a family

abbrev pub is_standing : List ℕ → Family → Bool
is_standing name f = bytes_eq f.name name && not f.dropped

abbrev pub is_own : ℕ → List ℕ → Family → Bool
is_own lane name f = bytes_eq f.name name && slice_index_or f.handles lane false

-- a family that is not dropped has the name
abbrev pub stands : List Family → List ℕ → Bool
stands families name = list_any (is_standing name) families

-- the lane has a handle of the name
abbrev pub has_handle : List Family → ℕ → List ℕ → Bool
has_handle families lane name = list_any (is_own lane name) families

-- ---- refusals

abbrev pub when : Bool → Refusal → Option Refusal
when due e = cond due (Some e) None

abbrev pub default_refusal : List ℕ → Option Refusal
default_refusal name = when (bytes_eq name default_name) refusal.IsDefault

abbrev pub option_refusal : OptionName → ℕ → Option Refusal
option_refusal option value =
    when (not (nat_le 1 value && nat_le value (greatest_of option)))
    (refusal.BadOption value 1 (greatest_of option))

abbrev pub taken_refusal : List Family → List ℕ → Option Refusal
taken_refusal families name = when (stands families name) refusal.NameTaken

abbrev pub handle_refusal : List Family → ℕ → List ℕ → Option Refusal
handle_refusal families lane name = when (has_handle families lane name) refusal.AlreadyOpen

-- the lane's handle is of a dropped family
abbrev pub dropped_refusal : List Family → ℕ → List ℕ → Option Refusal
dropped_refusal families lane name = when (list_any (λ f. is_own lane name f && f.dropped) families) refusal.Dropped

abbrev pub limit_refusal : List Family → Option Refusal
limit_refusal families = when (nat_le MAX_FAMILIES (length families)) refusal.TooManyFamilies

-- ---- the calls

abbrev pub create_refusal : List Family → ℕ → List ℕ → Option Refusal
create_refusal families lane name =
    first_due (taken_refusal families name ∷ handle_refusal families lane name ∷ limit_refusal families ∷ [])

abbrev pub find_refusal : List Family → ℕ → List ℕ → Option Refusal
find_refusal families lane name =
    when (not (has_handle families lane name)) (cond (stands families name) refusal.NotOpen refusal.NoFamily)

abbrev pub open_refusal : List Family → ℕ → List ℕ → Option Refusal
open_refusal families lane name =
    first_due (handle_refusal families lane name ∷ when (not (stands families name)) refusal.NoFamily ∷ [])

abbrev pub release_refusal : List Family → ℕ → List ℕ → Option Refusal
release_refusal families lane name = first_due (default_refusal name ∷ find_refusal families lane name ∷ [])

abbrev pub change_refusal : List Family → ℕ → List ℕ → Option Refusal
change_refusal families lane name = first_due (find_refusal families lane name ∷ dropped_refusal families lane name ∷ [])

abbrev pub drop_refusal : List Family → ℕ → List ℕ → Option Refusal
drop_refusal families lane name = first_due (release_refusal families lane name ∷ dropped_refusal families lane name ∷ [])

abbrev pub set_refusal : List Family → ℕ → List ℕ → OptionName → ℕ → Option Refusal
set_refusal families lane name option value = first_due (option_refusal option value ∷ change_refusal families lane name ∷ [])
