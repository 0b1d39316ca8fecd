-- A frozen memtable against the rows that were added to it.
use Rattle.std.specs.Prelude.{◌==◌, ℕ, zero, suc, List, [], ◌++◌, Option, find, length, option_map}
use Rattle.std.specs.Option.{option_to_list}
use Rattle.std.specs.List.Sorted.{IsPermutation}
use Rattle.sv_model.specs.declared.writes.Row.{Row}
use Rattle.sv_model.specs.declared.writes.Numbered.{Numbered}
use Rattle.sv_model.specs.Flat.{numbered_after}
use Rattle.sv_model.specs.Order.{OrderedBy, key_of_numbered, number_of}

-- Each row that was added stands here once with its number, from 1, and nothing else does: by key, and in one key the
-- newest first.
pub record IsFrozenOf (added : List Row) (rows : List Numbered) : Type 0 where
  pub ordered : OrderedBy key_of_numbered number_of rows
  pub all : IsPermutation (numbered_after 0 added) rows

-- the row that bears a number
abbrev pub bearing : List Numbered → ℕ → Option Row
bearing rows number = option_map (λ n. n.row) (find (λ n. n.number == number) rows)

-- the first rows that were added, as their numbers tell
unfoldable pub added_upto : List Numbered → ℕ → List Row
added_upto rows zero = []
added_upto rows (suc n) = added_upto rows n ++ option_to_list (bearing rows (suc n))

-- the rows in the order in which they were added
abbrev pub added_of : List Numbered → List Row
added_of rows = added_upto rows (length rows)
