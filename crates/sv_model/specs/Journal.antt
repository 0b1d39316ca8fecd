-- The journal is the list of accepted writes, in the order in which they were accepted.
use Rattle.std.specs.Prelude.{ℕ, Bool, true, false, List, Option, Some, None, ◌&&◌, ◌==◌, reverse, map, find, filter, take, option_and_then, option_map}
use Rattle.std.specs.Ordering.{nat_cmp, is_eq}
use Rattle.std.specs.Cmp.Lexicographic.{slice_cmp}
use Rattle.sv_model.specs.declared.writes.Write.{Write}
use Rattle.sv_model.specs.declared.writes.Row.{Row}
use Rattle.sv_model.specs.declared.writes.Op.{Op}
use Rattle.sv_model.specs.declared.writes.Op.TheVariants.{Put, Delete}

-- the keys are the same bytes
abbrev pub same_key : List ℕ → List ℕ → Bool
same_key key other = is_eq (slice_cmp nat_cmp key other)

-- the writes of a family, which are numbered from 1
abbrev pub of_family : ℕ → List Write → List Write
of_family family journal = filter (λ w. w.family == family) journal

-- the writes that a memtable bears
abbrev pub borne_by : ℕ → List Write → List Write
borne_by mem journal = filter (λ w. w.mem == mem) journal

-- the writes of a lane
abbrev pub by_lane : ℕ → List Write → List Write
by_lane lane journal = filter (λ w. w.lane == lane) journal

-- the row that a write is in its memtable
abbrev pub row_of : Write → Row
row_of w = record { key = w.key; op = w.op }

abbrev pub rows_of : List Write → List Row
rows_of writes = map row_of writes

abbrev pub is_of : ℕ → List ℕ → Write → Bool
is_of family key w = (w.family == family) && same_key key w.key

-- the newest row of a key
abbrev pub newest_row : List ℕ → List Row → Option Row
newest_row key rows = find (λ r. same_key key r.key) (reverse rows)

-- what the newest row of a key does
abbrev pub newest_op : List ℕ → List Row → Option Op
newest_op key rows = option_map (λ r. r.op) (newest_row key rows)

abbrev pub is_delete : Op → Bool
is_delete (Put value) = false
is_delete Delete = true

-- the value that an op leaves
abbrev pub value_of : Op → Option (List ℕ)
value_of (Put value) = Some value
value_of Delete = None

-- The value of a key after the first `cut` writes of its family: none after a delete, or without a write.
abbrev pub look : List Write → ℕ → ℕ → List ℕ → Option (List ℕ)
look journal family cut key =
    option_and_then value_of (newest_op key (rows_of (take cut (of_family family journal))))

-- what a write changes, apart from the lane that made it and the memtable that bears it
pub record Change : Type 0 where
  pub family : ℕ
  pub key : List ℕ
  pub op : Op

abbrev pub change_of : Write → Change
change_of w = record { family = w.family; key = w.key; op = w.op }
