-- What reading a source to its end gives, and what writing a text leaves.
use Rattle.std.specs.Prelude.{◌≡◌, ◌<◌, ◌≤◌, ◌++◌, ℕ, List, Option, IfSome, length, take}
use Rattle.std.specs.Io.KnownBytes.{Appends, Consumes, IsAtEnd}

-- the bytes are all that the source had, where it tells them, and few enough for a script
pub record ReadsWhole (left : Option (List ℕ)) (bytes : List ℕ) : Type 0 where
  pub few : length bytes ≤ 16777216
  pub all : IfSome left (λ had. bytes ≡ had)

-- the source had more bytes than a script may have, where it tells them
abbrev pub IsLong : Option (List ℕ) → Type 0
IsLong left = IfSome left (λ had. 16777216 < length had)

-- a front of the text was written
abbrev pub AppendsPart : Option (List ℕ) → Option (List ℕ) → List ℕ → Type 0
AppendsPart old new text = (n : ℕ) × Appends old new (take n text)

-- a piece of n bytes moved from the source onto the end of the bytes; none is moved only at the end
pub record MovesPiece (left now : Option (List ℕ)) (before after : List ℕ) (n : ℕ) : Type 0 where
  pub piece : List ℕ
  pub took : Consumes left now piece
  pub put : after ≡ before ++ piece
  pub count : length piece ≡ n
  pub end : n ≡ 0 → IsAtEnd now

-- at most so many bytes were taken from the source, where it tells them
pub record TakesAtMost (n : ℕ) (left now : Option (List ℕ)) : Type 0 where
  pub bytes : List ℕ
  pub took : Consumes left now bytes
  pub few : length bytes ≤ n
