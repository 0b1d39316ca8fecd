-- What a name of a column family is.
use Rattle.std.specs.Prelude.{ℕ, Bool, List, Option, Some, None, cond, length, ◌&&◌, ◌||◌, nat_le, ◌==◌}
use Rattle.std.specs.List.{list_all}
use Rattle.sv_model.specs.declared.names.TheConstants.{MAX_NAME}

-- one of `a` to `z`, `0` to `9` and `_`
abbrev pub is_name_byte : ℕ → Bool
is_name_byte byte = (nat_le 97 byte && nat_le byte 122) || (nat_le 48 byte && nat_le byte 57) || (byte == 95)

-- 1 to 32 such bytes
abbrev pub is_name : List ℕ → Bool
is_name bytes = nat_le 1 (length bytes) && nat_le (length bytes) MAX_NAME && list_all is_name_byte bytes

-- the name that the bytes are, if they are one
abbrev pub name_of : List ℕ → Option (List ℕ)
name_of bytes = cond (is_name bytes) (Some bytes) None
