-- The index of an open memtable, which has of each key the numbers of its rows.
use Rattle.std.specs.Prelude.{◌≡◌, ◌≤◌, ℕ, cond, List, [], ◌∷◌, ◌++◌, Option, length, map, option_map, unwrap_or}
use Rattle.std.specs.List.{filter}
use Rattle.std.specs.Ordering.{nat_cmp}
use Rattle.std.specs.Cmp.Lexicographic.{slice_cmp}
use Rattle.std.specs.BTreeMap.{BTreeMap, get}
use Rattle.sv_model.specs.declared.writes.Row.{Row}
use Rattle.sv_model.specs.declared.writes.Numbered.{Numbered}
use Rattle.sv_model.specs.Flat.{numbered_after}
use Rattle.sv_model.specs.Journal.{same_key}
use Rattle.sv_model.specs.Order.{key_of_numbered, number_of}
use Rattle.sv_model.specs.Registers.{entry}
use Rattle.sv_model.specs.declared.limits.TheConstants.{MAX_ROWS}

-- the numbers of the rows of a key, ascending
abbrev pub numbers_of_key : List ℕ → List Row → List ℕ
numbers_of_key key rows = map number_of (filter (λ n. same_key key (key_of_numbered n)) (numbered_after 0 rows))

-- the numbers to which the index leads from a key
abbrev pub numbers_at : BTreeMap (List ℕ) (List ℕ) → List ℕ → List ℕ
numbers_at index key = unwrap_or (get (slice_cmp nat_cmp) index key) []

pub record IsIndexed (rows : List Row) (index : BTreeMap (List ℕ) (List ℕ)) : Type 0 where
  pub few : length rows ≤ MAX_ROWS
  pub leads : (key : List ℕ) → numbers_at index key ≡ numbers_of_key key rows

-- The index leads from one key to one more number, which is the last, and from other keys to the same as before.
abbrev pub Notes : BTreeMap (List ℕ) (List ℕ) → List ℕ → ℕ → BTreeMap (List ℕ) (List ℕ) → Type 0
Notes old key number new = (q : List ℕ) → numbers_at new q ≡ numbers_at old q ++ cond (same_key key q) (number ∷ []) []

abbrev pub LeadsAsBefore : BTreeMap (List ℕ) (List ℕ) → BTreeMap (List ℕ) (List ℕ) → Type 0
LeadsAsBefore old new = (q : List ℕ) → numbers_at new q ≡ numbers_at old q

-- the row of this number, with its number
abbrev pub numbered_row : List Row → ℕ → Option Numbered
numbered_row rows number = option_map (λ row. record { number = number; row = row }) (entry rows number)
