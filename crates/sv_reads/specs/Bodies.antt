-- Frozen memtables beside the members of their list.
use Rattle.std.specs.Prelude.{◌≡◌, ℕ, List, [], ◌∷◌}
use Rattle.sv_model.specs.declared.writes.Write.{Write}
use Rattle.sv_model.specs.Cells.{Cell}
use Rattle.sv_model.specs.Journal.{borne_by, rows_of}

-- each has the rows of the member at its place
abbrev pub HaveRows : List Write → List ℕ → List (ℕ × Cell) → Type 0
HaveRows journal [] [] = Unit {0}
HaveRows journal [] (x ∷ xs) = ⊥
HaveRows journal (m ∷ ms) [] = ⊥
HaveRows journal (m ∷ ms) (x ∷ xs) = (x.1.rows ≡ rows_of (borne_by m journal)) × HaveRows journal ms xs
