-- The text of a table file, as a concatenation of fields, in three formats. Numbers are little-endian.
use Rattle.std.specs.Prelude.{◌≡◌, ℕ, ◌-◌, ◌<◌, ◌≤◌, ◌^◌, Bool, true, false, not, ◌||◌, nat_lt, nat_le, List, [], ◌∷◌, ◌++◌, length, count_by, IsTrue, ◌⊎◌}
use Rattle.std.specs.List.{flat_map, AllByRecursion}
use Rattle.std.specs.Int.{w16, w32, w64, to_le_bytes}
use Rattle.sv_model.specs.declared.writes.Row.{Row}
use Rattle.sv_model.specs.declared.writes.Kept.{Kept}
use Rattle.sv_model.specs.declared.writes.Op.{Op}
use Rattle.sv_model.specs.declared.writes.Op.TheVariants.{Put, Delete}
use Rattle.sv_model.specs.declared.cuts.Bottom.{Bottom}
use Rattle.sv_model.specs.Journal.{same_key, is_delete}
use Rattle.sv_model.specs.Order.{OrderedBy, key_of_kept, end_of_kept}
use Rattle.sv_model.specs.Flat.{ends_of, AreCuts}
use Rattle.sv_model.specs.Lists.{In}

-- ---- the formats

pub data Format : Type 0 where
  One : Format
  Two : Format
  Three : Format

-- The format in which a table is written: 3 with cuts, else 2 where nothing lies below, else 1.
abbrev pub written : Bool → List ℕ → Format
written last (cut ∷ cuts) = Three
written true [] = Two
written false [] = One

-- `SVTABLE1`, `SVTABLE2`, `SVTABLE3`
abbrev pub magic : Format → List ℕ
magic One = 83 ∷ 86 ∷ 84 ∷ 65 ∷ 66 ∷ 76 ∷ 69 ∷ 49 ∷ []
magic Two = 83 ∷ 86 ∷ 84 ∷ 65 ∷ 66 ∷ 76 ∷ 69 ∷ 50 ∷ []
magic Three = 83 ∷ 86 ∷ 84 ∷ 65 ∷ 66 ∷ 76 ∷ 69 ∷ 51 ∷ []

-- ---- the text of a table

abbrev pub flag : Bool → ℕ
flag false = 0
flag true = 1

-- the number of cuts and the cuts, in format 3 alone
abbrev pub cuts_text : Format → List ℕ → List ℕ
cuts_text One cuts = []
cuts_text Two cuts = []
cuts_text Three cuts = (length cuts ∷ []) ++ flat_map (to_le_bytes w64) cuts

-- magic, from, to, whether nothing lies below, the cuts, the number of rows
abbrev pub header_text : Format → ℕ → ℕ → Bottom → ℕ → List ℕ
header_text format from to bottom count =
    magic format
    ++ (to_le_bytes w64 from ++ (to_le_bytes w64 to ++ ((flag bottom.last ∷ []) ++ (cuts_text format bottom.cuts ++ to_le_bytes w32 count))))

-- 1, the value's length and the value; or 0
abbrev pub op_text : Op → List ℕ
op_text (Put value) = (1 ∷ []) ++ (to_le_bytes w16 (length value) ++ value)
op_text Delete = 0 ∷ []

-- The number of an end, counted from 0: how many cuts lie below it.
abbrev pub end_number : List ℕ → ℕ → ℕ
end_number cuts end = count_by (λ cut. nat_lt cut end) cuts

-- the number of the row's end, in format 3 alone
abbrev pub end_text : Format → ℕ → List ℕ
end_text One number = []
end_text Two number = []
end_text Three number = number ∷ []

-- the key's length and the key
abbrev pub key_text : List ℕ → List ℕ
key_text key = (length key ∷ []) ++ key

-- the key, the end, the op
abbrev pub kept_text : Format → List ℕ → Kept → List ℕ
kept_text format cuts r = key_text r.row.key ++ (end_text format (end_number cuts r.end) ++ op_text r.row.op)

-- the key of the last of the rows, with one before them
abbrev pub last_key : List ℕ → List Kept → List ℕ
last_key key [] = key
last_key key (r ∷ rows) = last_key r.row.key rows

-- the least and the greatest key, in format 2 alone, where there are rows
abbrev pub range_text : Format → List Kept → List ℕ
range_text One rows = []
range_text Three rows = []
range_text Two [] = []
range_text Two (r ∷ rows) = key_text r.row.key ++ key_text (last_key r.row.key rows)

abbrev pub text_as : Format → ℕ → ℕ → Bottom → List Kept → List ℕ
text_as format from to bottom rows =
    header_text format from to bottom (length rows) ++ (flat_map (kept_text format bottom.cuts) rows ++ range_text format rows)

-- the text that is written
abbrev pub table_text : ℕ → ℕ → Bottom → List Kept → List ℕ
table_text from to bottom rows = text_as (written bottom.last bottom.cuts) from to bottom rows

-- Before format 2, a table without cuts of which nothing lies below was written in format 1. It is still read.
abbrev pub old_text : ℕ → ℕ → Bottom → List Kept → List ℕ
old_text from to bottom rows = text_as One from to bottom rows

-- ---- which tables have a text

-- a row is no delete, or the next row is of its key
abbrev pub covers : Kept → List Kept → Bool
covers r [] = not (is_delete r.row.op)
covers r (other ∷ rows) = not (is_delete r.row.op) || same_key r.row.key other.row.key

-- under each delete stays an older row of its key
abbrev pub DeletesCover : List Kept → Type 0
DeletesCover [] = Unit {0}
DeletesCover (r ∷ rows) = IsTrue (covers r rows) × DeletesCover rows

-- The range has at least one write. There are at most as many rows as writes, and at least one where something may lie
-- below. The rows stand in order, and each bears an end of an interval. Where nothing lies below, each delete covers
-- an older row.
pub record IsWellFormed (from to : ℕ) (bottom : Bottom) (rows : List Kept) : Type 0 where
  pub range : from < to
  pub cuts : AreCuts from to bottom.cuts
  pub at_most : length rows ≤ to - from
  pub at_least : IsTrue (bottom.last || nat_le 1 (length rows))
  pub counted : length rows < 2 ^ 32
  pub ordered : OrderedBy key_of_kept end_of_kept rows
  pub ends : AllByRecursion (λ r. In r.end (ends_of bottom.cuts to)) rows
  pub deletes : bottom.last ≡ true → DeletesCover rows

abbrev pub AreBytes : List ℕ → Type 0
AreBytes bytes = AllByRecursion (λ b. b < 256) bytes

-- What each op, row and table in memory is: bytes, and numbers of 64 bits.
abbrev pub IsStoredOp : Op → Type 0
IsStoredOp (Put value) = (length value ≤ 1024) × AreBytes value
IsStoredOp Delete = Unit {0}

pub record IsStored (row : Row) : Type 0 where
  pub least : 1 ≤ length row.key
  pub greatest : length row.key ≤ 64
  pub bytes : AreBytes row.key
  pub op : IsStoredOp row.op

-- The table has a text: each field of it meets its rule.
pub record HasText (from to : ℕ) (bottom : Bottom) (rows : List Kept) : Type 0 where
  pub well_formed : IsWellFormed from to bottom rows
  pub in_range : to < 2 ^ 64
  pub stored : AllByRecursion (λ r. IsStored r.row) rows

-- the tables that were written in format 1 before
pub record HasOldText (bottom : Bottom) : Type 0 where
  pub last : bottom.last ≡ true
  pub uncut : bottom.cuts ≡ []

-- The bytes are a text of this table, the one that is written or the old one.
pub record IsTextOf (bytes : List ℕ) (from to : ℕ) (bottom : Bottom) (rows : List Kept) : Type 0 where
  pub has : HasText from to bottom rows
  pub are : (bytes ≡ table_text from to bottom rows) ⊎ (HasOldText bottom × (bytes ≡ old_text from to bottom rows))

-- the bytes are a text of some table
pub record IsTableFile (bytes : List ℕ) : Type 0 where
  pub from : ℕ
  pub to : ℕ
  pub bottom : Bottom
  pub rows : List Kept
  pub text : IsTextOf bytes from to bottom rows
