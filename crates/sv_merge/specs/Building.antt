-- The steps of building a table.
use Rattle.std.specs.Prelude.{ℕ, List, Bool}
use Rattle.std.specs.Ordering.{nat_cmp, is_lt, ordering_then}
use Rattle.std.specs.Cmp.Lexicographic.{slice_cmp}
use Rattle.std.specs.List.Sorted.{IsPermutation, IsSortedBy}
use Rattle.sv_model.specs.declared.writes.Kept.{Kept}
use Rattle.sv_model.specs.declared.writes.Numbered.{Numbered}
use Rattle.sv_model.specs.Flat.{end_among}

-- by key, and in one key the newest first
abbrev pub is_ahead : Numbered → Numbered → Bool
is_ahead a b = is_lt (ordering_then (slice_cmp nat_cmp a.row.key b.row.key) (nat_cmp b.number a.number))

-- the rows in that order
pub record IsNewestFirst (old new : List Numbered) : Type 0 where
  pub same : IsPermutation old new
  pub sorted : IsSortedBy is_ahead new

-- the row under the end of its interval
abbrev pub placed : List ℕ → ℕ → Numbered → Kept
placed cuts to n = record { end = end_among cuts to n.number; row = n.row }
