-- Items: how bytes are written as a word, and which bytes a word stands for.
use Rattle.std.specs.Prelude.{ℕ, ◌+◌, ◌-◌, ◌*◌, ◌/◌, ◌%◌, Bool, not, ◌&&◌, nat_le, nat_lt, ◌==◌, if◌then◌else◌}
use Rattle.std.specs.Prelude.{List, [], ◌∷◌, Option, Some, None, flat_map}

-- a byte that stands for itself: a visible one other than `%`
abbrev pub is_plain : ℕ → Bool
is_plain byte = nat_le 33 byte && nat_le byte 126 && not (byte == 37)

-- the upper-case hexadecimal digit of a number below 16
abbrev pub hex_digit : ℕ → ℕ
hex_digit n = if nat_lt n 10 then n + 48 else n + 55

-- a byte as it is written: itself, or `%` and two digits
abbrev pub byte_text : ℕ → List ℕ
byte_text byte = if is_plain byte then byte ∷ [] else 37 ∷ hex_digit (byte / 16) ∷ hex_digit (byte % 16) ∷ []

-- bytes as they are written: each of them, and no bytes as `%`
abbrev pub item_text : List ℕ → List ℕ
item_text [] = 37 ∷ []
item_text (byte ∷ bytes) = flat_map byte_text (byte ∷ bytes)

-- the value of a hexadecimal digit of either case
abbrev pub hex_value : ℕ → Option ℕ
hex_value c =
    if nat_le 48 c && nat_le c 57 then Some (c - 48)
    else if nat_le 65 c && nat_le c 70 then Some (c - 55)
    else if nat_le 97 c && nat_le c 102 then Some (c - 87)
    else None

-- the byte that two hexadecimal digits stand for
abbrev pub pair_value : Option ℕ → Option ℕ → Option ℕ
pair_value (Some high) (Some low) = Some (high * 16 + low)
pair_value (Some high) None = None
pair_value None low = None

-- the byte that a byte alone stands for
abbrev pub plain_value : ℕ → Option ℕ
plain_value byte = if is_plain byte then Some byte else None

-- a byte before bytes, where there are both
abbrev pub before : Option ℕ → Option (List ℕ) → Option (List ℕ)
before (Some byte) (Some bytes) = Some (byte ∷ bytes)
before (Some byte) None = None
before None bytes = None

-- The bytes that units stand for, one after another: `%` with two digits, or a byte that stands for itself.
unfoldable pub units_of : List ℕ → Option (List ℕ)
units_of [] = Some []
units_of (a ∷ []) = before (plain_value a) (Some [])
units_of (a ∷ b ∷ []) = before (plain_value a) (units_of (b ∷ []))
units_of (a ∷ b ∷ c ∷ rest) =
    if a == 37 then before (pair_value (hex_value b) (hex_value c)) (units_of rest)
    else before (plain_value a) (units_of (b ∷ c ∷ rest))

-- The bytes that a word stands for as an item: none for `%` alone, else those of one or more units.
unfoldable pub item_of : List ℕ → Option (List ℕ)
item_of [] = None
item_of (a ∷ []) = if a == 37 then Some [] else units_of (a ∷ [])
item_of (a ∷ b ∷ rest) = units_of (a ∷ b ∷ rest)
