-- The fields of a table file from the left, each with its rule, and the place of the first bad field.
use Rattle.std.specs.Prelude.{◌≡◌, ℕ, zero, suc, ◌-◌, ◌≤◌, Bool, true, false, cond, not, ◌&&◌, ◌||◌, ◌==◌, nat_lt, nat_le, List, [], ◌∷◌, length, take, slice_index}
use Rattle.std.specs.List.{concat}
use Rattle.std.specs.Str.{bytes_eq}
use Rattle.std.specs.Int.{w16, w32, w64, from_le_bytes}
use Rattle.sv_model.specs.Journal.{same_key}
use Rattle.sv_model.specs.Order.{is_below}
use Rattle.sv_model.specs.TableText.{Format, One, Two, Three, magic}

-- ---- what a field's rule looks back at

abbrev pub is_magic : List ℕ → Bool
is_magic bytes = bytes_eq bytes (magic One) || (bytes_eq bytes (magic Two) || bytes_eq bytes (magic Three))

-- the format that a magic tells
abbrev pub format_of : List ℕ → Format
format_of bytes = cond (bytes_eq bytes (magic One)) One (cond (bytes_eq bytes (magic Two)) Two Three)

-- cuts, and the ends of rows, are written
abbrev pub has_cuts : Format → Bool
has_cuts One = false
has_cuts Two = false
has_cuts Three = true

-- how the rows of a file are written: in which format, whether nothing lies below them, and with how many cuts
pub record Shape : Type 0 where
  pub format : Format
  pub last : Bool
  pub cuts : ℕ

-- The key of the first row so far; and of the last one so far the key, the number of its end, and whether it is a
-- delete. Before the first row both keys are empty.
pub record Seen : Type 0 where
  pub first : List ℕ
  pub key : List ℕ
  pub number : ℕ
  pub deleted : Bool

abbrev pub start : Seen
start = record { first = []; key = []; number = 0; deleted = false }

abbrev pub first_key : List ℕ → List ℕ → List ℕ
first_key [] key = key
first_key (b ∷ bytes) key = b ∷ bytes

-- one more row
abbrev pub see : Seen → List ℕ → ℕ → Bool → Seen
see seen key number deleted = record { first = first_key seen.first key; key = key; number = number; deleted = deleted }

-- ---- the fields

-- The field that comes next, with what its rule looks back at. `left` is how many of its sort are to come after it.
pub data Field : Type 0 where
  Magic : Field
  From : (format : Format) → Field
  To : (format : Format) → (from : ℕ) → Field
  LastFlag : (format : Format) → (from : ℕ) → (to : ℕ) → Field
  CutCount : (from : ℕ) → (to : ℕ) → (last : Bool) → Field
  Cut : (from : ℕ) → (to : ℕ) → (last : Bool) → (all : ℕ) → (left : ℕ) → (low : ℕ) → Field
  Count : (from : ℕ) → (to : ℕ) → (shape : Shape) → Field
  KeyLength : (shape : Shape) → (left : ℕ) → (seen : Seen) → Field
  KeyBytes : (shape : Shape) → (left : ℕ) → (seen : Seen) → (len : ℕ) → Field
  EndNumber : (shape : Shape) → (left : ℕ) → (seen : Seen) → (key : List ℕ) → Field
  OpMark : (shape : Shape) → (left : ℕ) → (seen : Seen) → (key : List ℕ) → (number : ℕ) → Field
  ValueLength : (shape : Shape) → (left : ℕ) → (seen : Seen) → Field
  ValueBytes : (shape : Shape) → (left : ℕ) → (seen : Seen) → (len : ℕ) → Field
  LeastLength : (least : List ℕ) → (greatest : List ℕ) → Field
  LeastKey : (least : List ℕ) → (greatest : List ℕ) → (len : ℕ) → Field
  GreatestLength : (greatest : List ℕ) → Field
  GreatestKey : (greatest : List ℕ) → (len : ℕ) → Field
  End : Field

-- how many bytes the field has
abbrev pub width : Field → ℕ
width Magic = 8
width (From format) = 8
width (To format from) = 8
width (LastFlag format from to) = 1
width (CutCount from to last) = 1
width (Cut from to last all left low) = 8
width (Count from to shape) = 4
width (KeyLength shape left seen) = 1
width (KeyBytes shape left seen len) = len
width (EndNumber shape left seen key) = 1
width (OpMark shape left seen key number) = 1
width (ValueLength shape left seen) = 2
width (ValueBytes shape left seen len) = len
width (LeastLength least greatest) = 1
width (LeastKey least greatest len) = len
width (GreatestLength greatest) = 1
width (GreatestKey greatest len) = len
width End = 0

-- ---- the rules

abbrev pub is_flag : Format → ℕ → Bool
is_flag One n = nat_le n 1
is_flag Two n = n == 1
is_flag Three n = nat_le n 1

abbrev pub is_cut : ℕ → ℕ → ℕ → Bool
is_cut low to n = nat_lt low n && nat_lt n to

abbrev pub is_count : ℕ → ℕ → Bool → ℕ → Bool
is_count from to last n = nat_le n (to - from) && (last || nat_le 1 n)

abbrev pub is_length : ℕ → Bool
is_length n = nat_le 1 n && nat_le n 64

-- Without cuts the key is above the one before. With cuts it is not below it, and is the same after a delete where
-- nothing lies below.
abbrev pub key_fits : Shape → Seen → List ℕ → Bool
key_fits shape seen key =
    cond (has_cuts shape.format) (not (is_below key seen.key) && (not (shape.last && seen.deleted) || same_key seen.key key)) (is_below seen.key key)

abbrev pub number_fits : Shape → Seen → List ℕ → ℕ → Bool
number_fits shape seen key n = nat_le n shape.cuts && (not (same_key seen.key key) || nat_lt n seen.number)

-- Where nothing lies below, a delete stands only with cuts, and not in the last row.
abbrev pub delete_fits : Shape → ℕ → Bool
delete_fits shape left = not (shape.last && (not (has_cuts shape.format) || (left == 0)))

abbrev pub mark_fits : Shape → ℕ → ℕ → Bool
mark_fits shape left n = (n == 1) || ((n == 0) && delete_fits shape left)

abbrev pub byte : List ℕ → ℕ
byte bytes = slice_index bytes 0

-- the bytes meet the field's rule; after the last field there is none
abbrev pub meets : Field → List ℕ → Bool
meets Magic bytes = is_magic bytes
meets (From format) bytes = true
meets (To format from) bytes = nat_lt from (from_le_bytes w64 bytes)
meets (LastFlag format from to) bytes = is_flag format (byte bytes)
meets (CutCount from to last) bytes = is_length (byte bytes)
meets (Cut from to last all left low) bytes = is_cut low to (from_le_bytes w64 bytes)
meets (Count from to shape) bytes = is_count from to shape.last (from_le_bytes w32 bytes)
meets (KeyLength shape left seen) bytes = is_length (byte bytes)
meets (KeyBytes shape left seen len) bytes = key_fits shape seen bytes
meets (EndNumber shape left seen key) bytes = number_fits shape seen key (byte bytes)
meets (OpMark shape left seen key number) bytes = mark_fits shape left (byte bytes)
meets (ValueLength shape left seen) bytes = nat_le (from_le_bytes w16 bytes) 1024
meets (ValueBytes shape left seen len) bytes = true
meets (LeastLength least greatest) bytes = byte bytes == length least
meets (LeastKey least greatest len) bytes = bytes_eq bytes least
meets (GreatestLength greatest) bytes = byte bytes == length greatest
meets (GreatestKey greatest len) bytes = bytes_eq bytes greatest
meets End bytes = false

-- ---- which field follows

abbrev pub next_cut : ℕ → ℕ → Bool → ℕ → ℕ → ℕ → Field
next_cut from to last all zero low = Count from to (record { format = Three; last = last; cuts = all })
next_cut from to last all (suc left) low = Cut from to last all left low

abbrev pub after_flag : Format → ℕ → ℕ → Bool → Field
after_flag format from to last =
    cond (has_cuts format) (CutCount from to last) (Count from to (record { format = format; last = last; cuts = 0 }))

-- After the last row the range of the keys follows, in format 2 and where there are rows.
abbrev pub after_rows : Format → List ℕ → List ℕ → Field
after_rows One least greatest = End
after_rows Three least greatest = End
after_rows Two [] greatest = End
after_rows Two (b ∷ least) greatest = LeastLength (b ∷ least) greatest

abbrev pub next_row : Shape → ℕ → Seen → Field
next_row shape zero seen = after_rows shape.format seen.first seen.key
next_row shape (suc left) seen = KeyLength shape left seen

abbrev pub after_key : Shape → ℕ → Seen → List ℕ → Field
after_key shape left seen key = cond (has_cuts shape.format) (EndNumber shape left seen key) (OpMark shape left seen key 0)

-- the field after one with these bytes
abbrev pub after : Field → List ℕ → Field
after Magic bytes = From (format_of bytes)
after (From format) bytes = To format (from_le_bytes w64 bytes)
after (To format from) bytes = LastFlag format from (from_le_bytes w64 bytes)
after (LastFlag format from to) bytes = after_flag format from to (byte bytes == 1)
after (CutCount from to last) bytes = next_cut from to last (byte bytes) (byte bytes) from
after (Cut from to last all left low) bytes = next_cut from to last all left (from_le_bytes w64 bytes)
after (Count from to shape) bytes = next_row shape (from_le_bytes w32 bytes) start
after (KeyLength shape left seen) bytes = KeyBytes shape left seen (byte bytes)
after (KeyBytes shape left seen len) bytes = after_key shape left seen bytes
after (EndNumber shape left seen key) bytes = OpMark shape left seen key (byte bytes)
after (OpMark shape left seen key number) bytes =
    cond (byte bytes == 1) (ValueLength shape left (see seen key number false)) (next_row shape left (see seen key number true))
after (ValueLength shape left seen) bytes = ValueBytes shape left seen (from_le_bytes w16 bytes)
after (ValueBytes shape left seen len) bytes = next_row shape left seen
after (LeastLength least greatest) bytes = LeastKey least greatest (byte bytes)
after (LeastKey least greatest len) bytes = GreatestLength greatest
after (GreatestLength greatest) bytes = GreatestKey greatest (byte bytes)
after (GreatestKey greatest len) bytes = End
after End bytes = End

-- ---- runs of fields

-- the bytes are the whole field, and meet its rule
pub record IsField (field : Field) (bytes : List ℕ) : Type 0 where
  pub whole : length bytes ≡ width field
  pub rule : meets field bytes ≡ true

-- These are fields, one after the other.
abbrev pub AreFields : Field → List (List ℕ) → Type 0
AreFields field [] = Unit {0}
AreFields field (bytes ∷ more) = IsField field bytes × AreFields (after field bytes) more

-- The bytes are a run of whole fields from this one on, each meeting its rule.
abbrev pub IsRunFrom : Field → List ℕ → Type 0
IsRunFrom field bytes = (fields : List (List ℕ)) × AreFields field fields × (bytes ≡ concat fields)

-- The first `place` bytes are the longest front that is a run of whole fields of one format, each meeting its rule.
pub record IsBadPlace (bytes : List ℕ) (place : ℕ) : Type 0 where
  pub within : place ≤ length bytes
  pub run : IsRunFrom Magic (take place bytes)
  pub longest : (n : ℕ) → n ≤ length bytes → IsRunFrom Magic (take n bytes) → n ≤ place
