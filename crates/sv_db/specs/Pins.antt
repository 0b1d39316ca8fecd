-- The pins of a lane, by number.
use Rattle.std.specs.Prelude.{Bool, List, None, Option, Some, false, slice_get, true, ℕ, ◌<◌, ◌≡◌}
use Rattle.sv_model.specs.Lists.{same}
use Rattle.sv_model.specs.declared.sv_refs.SvRef.{SvRef}
use Rattle.sv_objects.specs.declared.bodies.Body.{Body}

abbrev pub is_free : Option (SvRef Body) → Bool
is_free None = true
is_free (Some sv) = false

-- the pin of this number is of this SuperVersion
abbrev pub IsPin : List (Option (SvRef Body)) → ℕ → SvRef Body → Type 0
IsPin pins n sv = slice_get pins n ≡ Some (Some sv)

-- no pin has the number
abbrev pub HasNoPin : List (Option (SvRef Body)) → ℕ → Type 0
HasNoPin pins n = (sv : SvRef Body) → IsPin pins n sv → ⊥

-- the least number that no pin has
pub record IsLeastFree (pins : List (Option (SvRef Body))) (n : ℕ) : Type 0 where
  pub free : slice_get pins n ≡ Some None
  pub least : (m : ℕ) → m < n → (sv : SvRef Body) × IsPin pins m sv

-- there is none
abbrev pub AreAllTaken : List (Option (SvRef Body)) → Type 0
AreAllTaken pins = (n : ℕ) → n < 16 → (sv : SvRef Body) × IsPin pins n sv

-- how many references of the pack a pin is
abbrev pub pin_count : ℕ → Option (SvRef Body) → ℕ
pin_count p None = 0
pin_count p (Some sv) = same p sv.pack

abbrev pub pin_one : Option (SvRef Body) → ℕ
pin_one None = 0
pin_one (Some sv) = 1
