-- What the bytes of a file are to its range, and when a read of it is refused.
use Rattle.std.specs.Prelude.{◌≡◌, ◌==◌, ◌⊎◌, ℕ, Bool, true, false, List, [], ◌∷◌, Option, Some, None, bytes_eq, IfSome}
use Rattle.sv_model.specs.declared.writes.Kept.{Kept}
use Rattle.sv_model.specs.declared.cuts.Bottom.{Bottom}
use Rattle.sv_model.specs.declared.records.FileMeta.{FileMeta}
use Rattle.sv_model.specs.declared.refusals.Refusal.{Refusal}
use Rattle.sv_model.specs.declared.refusals.Refusal.TheVariants as refusal
use Rattle.sv_model.specs.Files.{Files, file_of}
use Rattle.sv_model.specs.TableText.{IsTextOf, flag}
use Rattle.sv_table.specs.Decoding.{IsBadFile}

-- ---- the range of a table

-- the offset beside the first test that fails
abbrev pub first_failing : List (Bool × ℕ) → Option ℕ
first_failing [] = None
first_failing ((true, place) ∷ tests) = first_failing tests
first_failing ((false, place) ∷ tests) = Some place

-- the offset in a table's text of the first field of its range that is not the file's
abbrev pub other_field : FileMeta → ℕ → ℕ → Bottom → Option ℕ
other_field file from to bottom = first_failing (
    (from == file.from, 8)
    ∷ (to == file.to, 16)
    ∷ (flag bottom.last == flag file.bottom.last, 24)
    ∷ (bytes_eq bottom.cuts file.bottom.cuts, 25)
    ∷ [])

-- ---- bytes

-- The bytes are a text of a table over the file's range.
pub record IsTextFor (file : FileMeta) (bytes : List ℕ) : Type 0 where
  pub rows : List Kept
  pub text : IsTextOf bytes file.from file.to file.bottom rows

-- The bytes are a text of another table, whose first field that is not the file's begins at this offset.
pub record IsOtherTable (file : FileMeta) (bytes : List ℕ) (place : ℕ) : Type 0 where
  pub from : ℕ
  pub to : ℕ
  pub bottom : Bottom
  pub rows : List Kept
  pub text : IsTextOf bytes from to bottom rows
  pub other : other_field file from to bottom ≡ Some place

-- The bytes are no table, whose first bad field begins at this offset, or another table.
abbrev pub AreBad : FileMeta → List ℕ → ℕ → Type 0
AreBad file bytes place = IsBadFile bytes place ⊎ IsOtherTable file bytes place

-- bytes of the file were refused
abbrev pub BytesRefusal : FileMeta → List ℕ → Refusal → Type 0
BytesRefusal file bytes (refusal.BadFile number place) = (number ≡ file.number) × AreBad file bytes place
BytesRefusal file bytes e = ⊥

-- ---- files

-- The file is there, and is a text of a table over its range.
abbrev pub IsGoodFile : FileMeta → Option (List ℕ) → Type 0
IsGoodFile file None = ⊥
IsGoodFile file (Some bytes) = IsTextFor file bytes

-- The file is not there, which is bad at 0, or its bytes are bad.
abbrev pub IsBadAt : FileMeta → Option (List ℕ) → ℕ → Type 0
IsBadAt file None place = place ≡ 0
IsBadAt file (Some bytes) place = AreBad file bytes place

-- The file holds this; said only where the directory tells its files.
abbrev pub Holds : Option Files → FileMeta → Option (List ℕ) → Type 0
Holds told file content = IfSome told (λ files. file_of file.number files ≡ content)

-- The file is bad at this offset.
pub record FileIsBad (told : Option Files) (file : FileMeta) (place : ℕ) : Type 0 where
  pub content : Option (List ℕ)
  pub holds : Holds told file content
  pub bad : IsBadAt file content place

-- ---- refusals

-- A read of a number was refused: the directory failed at it, there is no such file, or out of memory.
abbrev pub AbsentRefusal : Option Files → ℕ → Refusal → Type 0
AbsentRefusal told number (refusal.DirFault n) = n ≡ number
AbsentRefusal told number (refusal.BadFile n place) = (n ≡ number) × (place ≡ 0) × IfSome told (λ files. file_of number files ≡ None)
AbsentRefusal told number refusal.OutOfMemory = Unit {0}
AbsentRefusal told number e = ⊥

-- A read of a file was refused: the directory failed at it, it is bad, or out of memory.
abbrev pub ReadRefusal : Option Files → FileMeta → Refusal → Type 0
ReadRefusal told file (refusal.DirFault n) = n ≡ file.number
ReadRefusal told file (refusal.BadFile n place) = (n ≡ file.number) × FileIsBad told file place
ReadRefusal told file refusal.OutOfMemory = Unit {0}
ReadRefusal told file e = ⊥
