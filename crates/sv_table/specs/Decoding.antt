-- What reading a whole file answers.
use Rattle.std.specs.Prelude.{◌≡◌, ℕ, List, ◌++◌, length, Ok}
use Rattle.sv_model.specs.declared.writes.Kept.{Kept}
use Rattle.sv_model.specs.TableText.{IsTextOf, IsTableFile}
use Rattle.sv_model.specs.TableTextFields.{IsBadPlace}
use Rattle.sv_table.specs.Reading.{Header, HasRows, entries_in, kept_in}
use Rattle.sv_table.specs.declared.faults.DecodeError.{DecodeError}
use Rattle.sv_table.specs.declared.faults.DecodeError.TheVariants as errors
use Rattle.sv_table.specs.declared.heads.Head.{Head}

-- The bytes are no table's text, and the first bad field begins at this place.
pub record IsBadFile (bytes : List ℕ) (place : ℕ) : Type 0 where
  pub none : IsTableFile bytes → ⊥
  pub bad : IsBadPlace bytes place

-- A whole file was read: its header, and the bytes after it, at whose front the rows stand.
pub record IsTable (bytes : List ℕ) (h : Header) (rest : List ℕ) : Type 0 where
  pub rows : List Kept
  pub front : (before : List ℕ) × (bytes ≡ before ++ rest)
  pub stand : HasRows h rest
  pub are : kept_in h (entries_in h rest) ≡ Ok rows
  pub text : IsTextOf bytes h.from h.to h.bottom rows
  pub count : h.count ≡ length rows

-- the head is that of a table with these rows, of which the bytes are a text
pub record IsHeadOf (bytes : List ℕ) (head : Head) : Type 0 where
  pub rows : List Kept
  pub text : IsTextOf bytes head.from head.to head.bottom rows
  pub count : head.count ≡ length rows

-- Bad bytes are no table's text; only a table's text meets out of memory.
abbrev pub IsRefused : List ℕ → DecodeError → Type 0
IsRefused bytes errors.OutOfMemory = IsTableFile bytes
IsRefused bytes (errors.Bad place) = IsBadFile bytes place
