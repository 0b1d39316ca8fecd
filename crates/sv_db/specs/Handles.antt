-- What a lane means by the name of a family.
use Rattle.std.specs.Prelude.{Bool, List, None, Option, Some, false, slice_get, slice_set, ℕ, ◌≡◌}
use Rattle.std.specs.Str.{bytes_eq}

abbrev pub is_named : List ℕ → Option (List ℕ) → Bool
is_named name None = false
is_named name (Some own) = bytes_eq own name

-- Of the lane's handles, by family: that of this family is by this name.
abbrev pub IsHandleOf : List ℕ → List (Option (List ℕ)) → ℕ → Type 0
IsHandleOf name handles f = slice_get handles f ≡ Some (Some name)

-- it has none by this name
abbrev pub HasNone : List ℕ → List (Option (List ℕ)) → Type 0
HasNone name handles = (f : ℕ) → IsHandleOf name handles f → ⊥

-- the handle of this name is closed, and no other changed
pub record ClosesOwn (name : List ℕ) (before after : List (Option (List ℕ))) : Type 0 where
  pub family : ℕ
  pub own : IsHandleOf name before family
  pub is : after ≡ slice_set before family None
