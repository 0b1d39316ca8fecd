-- What a database that is new begins with, and what its lanes may do then.
use Rattle.std.specs.Prelude.{List, None, Option, Some, replicate, slice_get, ℕ, ◌∷◌, ◌≡◌}
use Rattle.sv_model.specs.Families.{default_name}
use Rattle.sv_model.specs.Files.{Files}
use Rattle.sv_model.specs.declared.sv_refs.SvRef.{SvRef}
use Rattle.sv_objects.specs.declared.bodies.Body.{Body as Kept}
use Rattle.sv_model.specs.Openings.{opening_books}
use Rattle.sv_rule.specs.Views.{Start}

-- the directory as it is then, with its faults, and the books of the family `default` alone
abbrev pub new_start : Option Files → ℕ → ℕ → Start
new_start files faults next = record { disk = record { files = files; faults = faults }; books = opening_books next }

-- the handles of each lane then, by family
abbrev pub first_handles : List (Option (List ℕ))
first_handles = Some default_name ∷ replicate 15 None

-- Lanes in their order, each with its number, its handles and its pins, are as a database opens with them.
abbrev pub AreFirst : List (ℕ × List (Option (List ℕ)) × List (Option (SvRef Kept))) → Type 0
AreFirst lanes = (i : ℕ) (x : ℕ × List (Option (List ℕ)) × List (Option (SvRef Kept))) → slice_get lanes i ≡ Some x
    → x ≡ (i, first_handles, replicate 16 None)
