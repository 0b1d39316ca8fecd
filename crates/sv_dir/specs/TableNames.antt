-- The names of table files.
use Rattle.std.specs.Prelude.{◌==◌, ℕ, ◌-◌, Bool, not, ◌&&◌, ◌||◌, cond, nat_le, List, length, take, drop, slice_index, Option, Some, None, bytes_eq}
use Rattle.std.specs.Str.{all_ascii_digits}
use Rattle.std.specs.Str.Parse.{digits_value}
use Rattle.sv_model.specs.Files.{suffix}

-- a name without its last four bytes, and these
abbrev pub stem_of : List ℕ → List ℕ
stem_of name = take (length name - 4) name

abbrev pub ending_of : List ℕ → List ℕ
ending_of name = drop (length name - 4) name

-- six digits, or seven to twelve without a leading zero
abbrev pub is_spelled : List ℕ → Bool
is_spelled stem = all_ascii_digits stem
    && ((length stem == 6) || (nat_le 7 (length stem) && nat_le (length stem) 12 && not (slice_index stem 0 == 48)))

-- the name is such digits, which are not all zeros, and then `.sst`
abbrev pub is_file_name : List ℕ → Bool
is_file_name name = bytes_eq (ending_of name) suffix && is_spelled (stem_of name) && not (digits_value 10 (stem_of name) == 0)

-- The number of the table file of that name; none where the name is foreign.
unfoldable pub number_named : List ℕ → Option ℕ
number_named name = cond (is_file_name name) (Some (digits_value 10 (stem_of name))) None
