-- Reading a table file's fields from the left. A fault is how many bytes are left where the first bad field begins.
use Rattle.std.specs.Prelude.{◌≡◌, ℕ, zero, suc, ◌≤◌, Bool, true, false, ◌==◌, nat_lt, nat_le, List, [], ◌∷◌, length, take, drop, slice_index, map, Result, Ok, Err, if◌then◌else◌}
use Rattle.std.specs.Str.{bytes_eq}
use Rattle.std.specs.Int.{Width, w16, w32, w64, byte_len, from_le_bytes}
use Rattle.sv_model.specs.declared.writes.Kept.{Kept}
use Rattle.sv_model.specs.declared.writes.Op.{Op}
use Rattle.sv_model.specs.declared.writes.Op.TheVariants.{Put, Delete}
use Rattle.sv_model.specs.declared.cuts.Bottom.{Bottom}
use Rattle.sv_model.specs.Journal.{is_delete}
use Rattle.sv_model.specs.Flat.{ends_of}
use Rattle.sv_model.specs.TableText.{Format, One, Two, Three}
use Rattle.sv_model.specs.TableTextFields.{is_magic, format_of, has_cuts, Shape, Seen, start, see, is_flag, is_cut, is_count, is_length, key_fits, number_fits, mark_fits}

infixl 10 ◌>>=◌
abbrev pub ◌>>=◌ : {A B : Type 0} → Result A ℕ → (A → Result B ℕ) → Result B ℕ
(Ok x) >>= f = f x
(Err left) >>= f = Err left

-- ---- one field: a value and the bytes after it

abbrev pub bytes_at : ℕ → List ℕ → Result (List ℕ × List ℕ) ℕ
bytes_at n bytes = if nat_lt (length bytes) n then Err (length bytes) else Ok (take n bytes, drop n bytes)

abbrev pub number_at : Width → List ℕ → Result (ℕ × List ℕ) ℕ
number_at w bytes = if nat_lt (length bytes) (byte_len w) then Err (length bytes) else Ok (from_le_bytes w (take (byte_len w) bytes), drop (byte_len w) bytes)

abbrev pub byte_at : List ℕ → Result (ℕ × List ℕ) ℕ
byte_at [] = Err 0
byte_at (b ∷ rest) = Ok (b, rest)

-- the field at these bytes, where it meets a test
abbrev pub checked : {X : Type 0} → (X → Bool) → List ℕ → Result (X × List ℕ) ℕ → Result (X × List ℕ) ℕ
checked test bytes read = read >>= λ x. if test x.0 then Ok x else Err (length bytes)

-- ---- the header

pub record Header : Type 0 where
  pub format : Format
  pub from : ℕ
  pub to : ℕ
  pub bottom : Bottom
  pub count : ℕ

unfoldable pub format_at : List ℕ → Result (Format × List ℕ) ℕ
format_at bytes = do
  m ← checked is_magic bytes (bytes_at 8 bytes)
  Ok (format_of m.0, m.1)

unfoldable pub range_at : List ℕ → Result ((ℕ × ℕ) × List ℕ) ℕ
range_at bytes = do
  from ← number_at w64 bytes
  to ← checked (λ n. nat_lt from.0 n) from.1 (number_at w64 from.1)
  Ok ((from.0, to.0), to.1)

unfoldable pub each_cut_at : ℕ → ℕ → ℕ → List ℕ → Result (List ℕ × List ℕ) ℕ
each_cut_at zero low to bytes = Ok ([], bytes)
each_cut_at (suc n) low to bytes = do
  cut ← checked (λ c. is_cut low to c) bytes (number_at w64 bytes)
  cuts ← each_cut_at n cut.0 to cut.1
  Ok (cut.0 ∷ cuts.0, cuts.1)

unfoldable pub some_cuts_at : ℕ → ℕ → List ℕ → Result (List ℕ × List ℕ) ℕ
some_cuts_at from to bytes = do
  n ← checked is_length bytes (byte_at bytes)
  each_cut_at n.0 from to n.1

unfoldable pub bottom_at : Format → ℕ → ℕ → List ℕ → Result (Bottom × List ℕ) ℕ
bottom_at format from to bytes = do
  last ← checked (λ n. is_flag format n) bytes (byte_at bytes)
  cuts ← if has_cuts format then some_cuts_at from to last.1 else Ok ([], last.1)
  Ok (record { last = last.0 == 1; cuts = cuts.0 }, cuts.1)

unfoldable pub header_at : List ℕ → Result (Header × List ℕ) ℕ
header_at bytes = do
  format ← format_at bytes
  range ← range_at format.1
  bottom ← bottom_at format.0 range.0.0 range.0.1 range.1
  count ← checked (λ n. is_count range.0.0 range.0.1 bottom.0.last n) bottom.1 (number_at w32 bottom.1)
  Ok (record { format = format.0; from = range.0.0; to = range.0.1; bottom = bottom.0; count = count.0 }, count.1)

abbrev pub shape_of : Header → Shape
shape_of h = record { format = h.format; last = h.bottom.last; cuts = length h.bottom.cuts }

-- ---- the rows

-- a value has at most as many bytes as a value in memory may have
abbrev pub FitsMemory : Op → Type 0
FitsMemory (Put value) = length value ≤ 1024
FitsMemory Delete = Unit {0}

-- a row, with the number of its end
pub record Entry : Type 0 where
  pub key : List ℕ
  pub number : ℕ
  pub op : Op

unfoldable pub key_at : Shape → Seen → List ℕ → Result (List ℕ × List ℕ) ℕ
key_at shape seen bytes = do
  n ← checked is_length bytes (byte_at bytes)
  checked (λ key. key_fits shape seen key) n.1 (bytes_at n.0 n.1)

unfoldable pub end_at : Shape → Seen → List ℕ → List ℕ → Result (ℕ × List ℕ) ℕ
end_at shape seen key bytes = if has_cuts shape.format then checked (λ n. number_fits shape seen key n) bytes (byte_at bytes) else Ok (0, bytes)

unfoldable pub value_at : List ℕ → Result (List ℕ × List ℕ) ℕ
value_at bytes = do
  n ← checked (λ n. nat_le n 1024) bytes (number_at w16 bytes)
  bytes_at n.0 n.1

unfoldable pub op_at : Shape → ℕ → List ℕ → Result (Op × List ℕ) ℕ
op_at shape left bytes = do
  mark ← checked (λ n. mark_fits shape left n) bytes (byte_at bytes)
  if mark.0 == 1 then (value_at mark.1 >>= λ value. Ok (Put value.0, value.1)) else Ok (Delete, mark.1)

-- a row after which `left` more are to come
unfoldable pub entry_at : Shape → ℕ → Seen → List ℕ → Result (Entry × List ℕ) ℕ
entry_at shape left seen bytes = do
  key ← key_at shape seen bytes
  number ← end_at shape seen key.0 key.1
  op ← op_at shape left number.1
  Ok (record { key = key.0; number = number.0; op = op.0 }, op.1)

abbrev pub see_entry : Seen → Entry → Seen
see_entry seen e = see seen e.key e.number (is_delete e.op)

unfoldable pub entries_at : Shape → ℕ → Seen → List ℕ → Result (List Entry × List ℕ) ℕ
entries_at shape zero seen bytes = Ok ([], bytes)
entries_at shape (suc n) seen bytes = do
  first ← entry_at shape n seen bytes
  others ← entries_at shape n (see_entry seen first.0) first.1
  Ok (first.0 ∷ others.0, others.1)

-- what is to be looked back at after these rows
abbrev pub seen_after : Seen → List Entry → Seen
seen_after seen [] = seen
seen_after seen (e ∷ entries) = seen_after (see_entry seen e) entries

abbrev pub walked : Seen → Result (List Entry × List ℕ) ℕ → Result (Seen × List ℕ) ℕ
walked seen read = read >>= λ x. Ok (seen_after seen x.0, x.1)

-- the row with its end itself
abbrev pub kept_of : Header → Entry → Kept
kept_of h e = record { end = slice_index (ends_of h.bottom.cuts h.to) e.number; row = record { key = e.key; op = e.op } }

abbrev pub entries_in : Header → List ℕ → Result (List Entry × List ℕ) ℕ
entries_in h bytes = entries_at (shape_of h) h.count start bytes

abbrev pub kept_in : Header → Result (List Entry × List ℕ) ℕ → Result (List Kept) ℕ
kept_in h read = read >>= λ x. Ok (map (kept_of h) x.0)

-- the rows stand at the front of the bytes
pub record HasRows (h : Header) (bytes : List ℕ) : Type 0 where
  pub entries : List Entry
  pub rest : List ℕ
  pub are : entries_in h bytes ≡ Ok (entries, rest)

-- ---- the range of the keys, and the whole file

-- this very key with its length
unfoldable pub exact_key_at : List ℕ → List ℕ → Result (List ℕ × List ℕ) ℕ
exact_key_at key bytes = do
  n ← checked (λ n. n == length key) bytes (byte_at bytes)
  k ← checked (λ k. bytes_eq k key) n.1 (bytes_at n.0 n.1)
  Ok (key, k.1)

abbrev pub has_range : Format → List ℕ → Bool
has_range One least = false
has_range Three least = false
has_range Two [] = false
has_range Two (b ∷ least) = true

unfoldable pub tail_at : Format → List ℕ → List ℕ → List ℕ → Result (List ℕ × List ℕ) ℕ
tail_at format least greatest bytes =
    if has_range format least then (exact_key_at least bytes >>= λ x. exact_key_at greatest x.1) else Ok (greatest, bytes)

-- nothing more follows
abbrev pub ended : {X : Type 0} → X → List ℕ → Result X ℕ
ended x rest = if length rest == 0 then Ok x else Err (length rest)

-- the header of a whole file, and the bytes after it
unfoldable pub file_at : List ℕ → Result (Header × List ℕ) ℕ
file_at bytes = do
  header ← header_at bytes
  rows ← walked start (entries_in header.0 header.1)
  tail ← tail_at header.0.format rows.0.first rows.0.key rows.1
  ended header tail.1
