-- What the calls on the memtables give and leave.
use Rattle.std.specs.Prelude.{◌≡◌, ◌+◌, ◌<◌, ℕ, true, cond, nat_le, List, [], ◌∷◌, ◌++◌, length, Option, Some, None}
use Rattle.sv_model.specs.declared.records.Memtable.{Memtable}
use Rattle.sv_model.specs.declared.refusals.Refusal.{Refusal}
use Rattle.sv_model.specs.declared.refusals.Refusal.TheVariants.{TooManyMemtables}
use Rattle.sv_model.specs.Named.{memtable_live}
use Rattle.sv_model.specs.Places as places
use Rattle.sv_model.specs.Places.{live_count, IsLeastFree, HavePlaces, cell_of, gone_memtable}
use Rattle.sv_model.specs.declared.limits.TheConstants.{MAX_CELLS}

-- the refusal that making a memtable meets: 64 are not Gone
abbrev pub memtables_refusal : List Memtable → Option Refusal
memtables_refusal memtables = cond (nat_le MAX_CELLS (live_count memtable_live memtables)) (Some TooManyMemtables) None

-- A memtable of this family, after so many of its writes, is made at the least free cell, under the next id.
pub record IsMade (old : List Memtable) (family first : ℕ) (new : List Memtable) (id : ℕ) : Type 0 where
  pub cell : ℕ
  pub within : cell < MAX_CELLS
  pub least : IsLeastFree memtable_live cell_of old cell
  pub made : new ≡ old ++ record { family = family; first = first; cell = cell; live = true } ∷ []
  pub id_is : id ≡ length old + 1

-- Each memtable that is not Gone has a cell of its own, below 64.
abbrev pub HaveCells : List Memtable → Type 0
HaveCells = HavePlaces memtable_live cell_of MAX_CELLS

-- the memtable made last is not Gone
abbrev pub IsJustMade : List Memtable → Type 0
IsJustMade = places.IsJustMade memtable_live

-- The memtable of this id, which was not Gone, is Gone, and nothing else changed.
abbrev pub IsEnded : List Memtable → ℕ → Memtable → List Memtable → Type 0
IsEnded = places.IsEnded memtable_live gone_memtable
