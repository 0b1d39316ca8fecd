-- Frozen memtables as contracts see them.
use Rattle.std.specs.Prelude.{ℕ, List, map}
use Rattle.std.specs.Arc.{arc_value}
use Rattle.std.specs.declared.sync.Arc.{Arc}
use Rattle.sv_model.specs.Cells.{Cell}

-- the cell and the rows of each
abbrev pub shown : {Z : Type 0} → List (ℕ × Arc Cell Z) → List (ℕ × Cell)
shown frozen = map (λ p. (p.0, arc_value p.1)) frozen
