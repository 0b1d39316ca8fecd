-- The words of a line.
use Rattle.std.specs.Prelude.{ℕ, Bool, ◌||◌, ◌==◌, nat_lt, List, filter, length, map}
use Rattle.std.specs.List.{slice_split}
use Rattle.std.specs.Str.Lines.{strip_carriage_return}

-- a line by its words, and lines
abbrev pub Words : Type 0
Words = List (List ℕ)

abbrev pub Lines : Type 0
Lines = List (List (List ℕ))

-- a space or a tab
abbrev pub is_blank : ℕ → Bool
is_blank byte = (byte == 32) || (byte == 9)

-- the pieces between blanks that are not empty
unfoldable pub words_of : List ℕ → Words
words_of line = filter (λ piece. nat_lt 0 (length piece)) (slice_split is_blank line)

-- The words of each line. Lines end at line feeds, and one carriage return at the end of a line is no part of it.
unfoldable pub lines_of_words : List ℕ → Lines
lines_of_words bytes = map (λ line. words_of (strip_carriage_return line)) (slice_split (λ byte. byte == 10) bytes)
