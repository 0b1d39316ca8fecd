-- Which cuts the tests of merges ask for.
use Rattle.std.specs.Prelude.{ℕ, Bool, List, [], ◌∷◌, ◌++◌, if◌then◌else◌}

-- of the cuts 2, 4 and 5 those that are wanted
abbrev pub chosen : Bool → Bool → Bool → List ℕ
chosen a b c = (if a then 2 ∷ [] else []) ++ (if b then 4 ∷ [] else []) ++ (if c then 5 ∷ [] else [])
