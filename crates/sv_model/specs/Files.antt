-- The files of a directory, by name.
use Rattle.std.specs.Prelude.{ℕ, ◌-◌, List, ◌++◌, Option, Some, None, length, replicate, decimal, codes}
use Rattle.std.specs.Ordering.{nat_cmp}
use Rattle.std.specs.Cmp.Lexicographic.{slice_cmp}
use Rattle.std.specs.FinMap as map

-- ---- names

-- the number in decimal, with leading zeros to at least so many digits
abbrev pub padded : ℕ → ℕ → List ℕ
padded least n = replicate (least - length (decimal n)) 48 ++ decimal n

-- the ending of each name
abbrev pub suffix : List ℕ
suffix = codes ".sst"

-- The name of the table file of that number: at least six digits, and then `.sst`.
unfoldable pub file_name : ℕ → List ℕ
file_name n = padded 6 n ++ suffix

-- ---- files

-- the files, as a map from each name to the file's bytes
abbrev pub Files : Type 0
Files = map.FinMap (slice_cmp nat_cmp) (List ℕ)

-- the bytes of the file of that number, if there is one
abbrev pub file_of : ℕ → Files → Option (List ℕ)
file_of number files = map.get files (file_name number)

-- the files with this at a name: a file of these bytes, or none; the others stay
abbrev pub with_file : List ℕ → Option (List ℕ) → Files → Files
with_file name None files = map.remove files name
with_file name (Some bytes) files = map.insert files name bytes
