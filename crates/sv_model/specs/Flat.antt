-- A flat: of each key and each interval between cuts the newest write, among a range of a family's writes.
use Rattle.std.specs.Prelude.{◌≡◌, ◌≤◌, ◌⊎◌, ℕ, suc, Bool, true, false, cond, ◌&&◌, ◌==◌, nat_le, List, [], ◌∷◌, ◌++◌, Option, find, take, drop, reverse, option_map, unwrap_or, length}
use Rattle.std.specs.List.{filter, filter_map}
use Rattle.sv_model.specs.declared.writes.Write.{Write}
use Rattle.sv_model.specs.declared.writes.Row.{Row}
use Rattle.sv_model.specs.declared.writes.Kept.{Kept}
use Rattle.sv_model.specs.declared.writes.Numbered.{Numbered}
use Rattle.sv_model.specs.declared.cuts.Bottom.{Bottom}
use Rattle.sv_model.specs.Journal.{same_key, of_family, rows_of, is_delete}
use Rattle.sv_model.specs.Lists.{In}
use Rattle.sv_model.specs.Order.{OrderedBy, key_of_kept, end_of_kept}

-- the writes `from + 1` to `to` of a family
abbrev pub range_of : List Write → ℕ → ℕ → ℕ → List Row
range_of journal family from to = rows_of (drop from (take to (of_family family journal)))

-- the rows with their numbers, of which the first is `before + 1`
abbrev pub numbered_after : ℕ → List Row → List Numbered
numbered_after before [] = []
numbered_after before (row ∷ rows) = record { number = suc before; row = row } ∷ numbered_after (suc before) rows

-- the rows of a key, in their order
abbrev pub of_key : List ℕ → List Kept → List Kept
of_key key rows = filter (λ r. same_key key r.row.key) rows

-- the intervals of a range end at its cuts and at its last write
abbrev pub ends_of : List ℕ → ℕ → List ℕ
ends_of cuts to = cuts ++ to ∷ []

-- the end of the interval in which a write lies: the first that it does not pass
abbrev pub end_at : List ℕ → ℕ → ℕ
end_at ends number = unwrap_or (find (λ e. nat_le number e) ends) 0

-- the same where the ends are these cuts and the last write: the first cut that a number does not pass, else the last write
abbrev pub end_among : List ℕ → ℕ → ℕ → ℕ
end_among cuts to number = unwrap_or (find (λ cut. nat_le number cut) cuts) to

-- the newest write of a key in the interval that ends here, bearing that end
abbrev pub newest_in : List ℕ → List Numbered → List ℕ → ℕ → Option Kept
newest_in ends writes key end =
    option_map (λ n. record { end = end; row = n.row }) (find (λ n. same_key key n.row.key && (end_at ends n.number == end)) (reverse writes))

-- of each interval the newest write of a key, the newest first
abbrev pub newest_each : List ℕ → List Numbered → List ℕ → List Kept
newest_each ends writes key = filter_map (newest_in ends writes key) (reverse ends)

abbrev pub is_empty : List Kept → Bool
is_empty [] = true
is_empty (r ∷ rows) = false

-- Without each delete of which no older row stays.
abbrev pub without_last_deletes : List Kept → List Kept
without_last_deletes [] = []
without_last_deletes (r ∷ rows) =
    cond (is_delete r.row.op && is_empty (without_last_deletes rows)) [] (r ∷ without_last_deletes rows)

-- what stays of a key where nothing lies below: a delete stays only where a put with a smaller end stays
abbrev pub stays : Bool → List Kept → List Kept
stays last rows = cond last (without_last_deletes rows) rows

-- The rows are those of the newest write of each key and interval, ascending by key and in one key descending by end;
-- where nothing lies below, without the deletes under which no put stays.
pub record IsFlatOf (from to : ℕ) (bottom : Bottom) (writes : List Row) (rows : List Kept) : Type 0 where
  pub ordered : OrderedBy key_of_kept end_of_kept rows
  pub newest : (key : List ℕ) → of_key key rows ≡ stays bottom.last (newest_each (ends_of bottom.cuts to) (numbered_after from writes) key)

-- The same of the writes `from + 1` to `to` of a family.
abbrev pub IsFlat : List Write → ℕ → ℕ → ℕ → Bottom → List Kept → Type 0
IsFlat journal family from to bottom rows = IsFlatOf from to bottom (range_of journal family from to) rows

-- Cuts of a range: they ascend, lie inside it, and are at most 64.
abbrev pub CutsFrom : ℕ → List ℕ → ℕ → Type 0
CutsFrom low [] high = Unit {0}
CutsFrom low (cut ∷ cuts) high = (suc low ≤ cut) × (suc cut ≤ high) × CutsFrom cut cuts high

pub record AreCuts (from to : ℕ) (cuts : List ℕ) : Type 0 where
  pub ascend : CutsFrom from cuts to
  pub few : length cuts ≤ 64

-- A flat of this range tells what was there at the cut: it is one of the cuts, or does not lie inside the range.
abbrev pub IsClearIn : ℕ → ℕ → List ℕ → ℕ → Type 0
IsClearIn from to cuts cut = In cut cuts ⊎ ((to ≤ cut) ⊎ (cut ≤ from))

-- what a file says of what lies below it where something may, and where it keeps no cut
abbrev pub plain : Bottom
plain = record { last = false; cuts = [] }
