-- What is found in one part of a SuperVersion, and how a read is made of its parts.
use Rattle.std.specs.Prelude.{◌≡◌, ◌≤◌, ◌-◌, ℕ, min, List, [], ◌∷◌, ◌++◌, length, take, Option, Some, None}
use Rattle.sv_model.specs.declared.writes.Write.{Write}
use Rattle.sv_model.specs.declared.writes.Row.{Row}
use Rattle.sv_model.specs.declared.writes.Op.{Op}
use Rattle.sv_model.specs.Cells.{Cell}
use Rattle.sv_model.specs.Flat.{range_of}
use Rattle.sv_model.specs.Journal.{look, newest_op, value_of}

-- the rows of frozen memtables, of which the first is the oldest
abbrev pub rows_in : List (ℕ × Cell) → List Row
rows_in [] = []
rows_in (x ∷ xs) = x.1.rows ++ rows_in xs

-- the value that the op leaves that was found, or else that of what is older
abbrev pub chosen : Option Op → Option (List ℕ) → Option (List ℕ)
chosen (Some op) older = value_of op
chosen None older = older

-- This is found in the rows of the writes after `from`: what the newest row of the key at or below the cut does. So a
-- read up to the cut that goes through these rows answers this, or else what it answers up to `from`.
pub record FindsAfter (from : ℕ) (rows : List Row) (key : List ℕ) (cut : ℕ) (found : Option Op) : Type 0 where
  pub newest : found ≡ newest_op key (take (cut - from) rows)
  pub looks : (journal : List Write) (family to : ℕ) → from ≤ to → range_of journal family from to ≡ rows
      → look journal family (min cut to) key ≡ chosen found (look journal family (min cut from) key)

-- The same of frozen memtables, of which the rows are those of the last writes up to `base`.
abbrev pub FindsBefore : ℕ → List (ℕ × Cell) → List ℕ → ℕ → Option Op → Type 0
FindsBefore base frozen key cut found =
    length (rows_in frozen) ≤ base → FindsAfter (base - length (rows_in frozen)) (rows_in frozen) key cut found
