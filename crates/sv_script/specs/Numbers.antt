-- Numbers as words.
use Rattle.std.specs.Prelude.{ℕ, ◌+◌, ◌-◌, ◌*◌, ◌^◌, Bool, ◌&&◌, nat_le, nat_lt, if◌then◌else◌}
use Rattle.std.specs.Prelude.{List, length, fold, Option, Some, None}
use Rattle.std.specs.List.{list_all}
use Rattle.sv_model.specs.declared.limits.TheConstants.{MAX_LANES}
use Rattle.sv_script.specs.declared.parsing.decimals.TheConstants.{MAX_DIGITS}

abbrev pub is_digit : ℕ → Bool
is_digit byte = nat_le 48 byte && nat_le byte 57

-- a number with one more digit after its own
abbrev pub appended : ℕ → ℕ → ℕ
appended value digit = value * 10 + (digit - 48)

-- the number that decimal digits write
unfoldable pub value_of : List ℕ → ℕ
value_of digits = fold appended 0 digits

-- 1 to 20 decimal digits
abbrev pub is_digits : List ℕ → Bool
is_digits word = nat_le 1 (length word) && nat_le (length word) MAX_DIGITS && list_all is_digit word

-- the number that the word is: 1 to 20 decimal digits of a value below 2 ^ 64
unfoldable pub number_of : List ℕ → Option ℕ
number_of word = if is_digits word && nat_lt (value_of word) (2 ^ 64) then Some (value_of word) else None

-- the number with one more digit, where it is a digit and the number stays below 2 ^ 64
abbrev pub with_digit : ℕ → ℕ → Option ℕ
with_digit value digit =
    if is_digit digit && nat_lt (appended value digit) (2 ^ 64) then Some (appended value digit) else None

-- the number, where it is one of a lane
abbrev pub in_lanes : Option ℕ → Option ℕ
in_lanes (Some n) = if nat_le 1 n && nat_le n MAX_LANES then Some n else None
in_lanes None = None

-- the number of the lane that the word is: a number from 1 to 32
unfoldable pub lane_of : List ℕ → Option ℕ
lane_of word = in_lanes (number_of word)
