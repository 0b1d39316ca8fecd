-- What one file of a SuperVersion says of a key, by what the file holds.
use Rattle.std.specs.Prelude.{◌≡◌, ℕ, List, Option, Some, None, Result, Ok, Err}
use Rattle.sv_model.specs.declared.records.FileMeta.{FileMeta}
use Rattle.sv_model.specs.declared.refusals.Refusal.{Refusal}
use Rattle.sv_model.specs.declared.refusals.Refusal.TheVariants as refusal
use Rattle.sv_model.specs.declared.writes.Kept.{Kept}
use Rattle.sv_model.specs.declared.writes.Op.{Op}
use Rattle.sv_model.specs.Files.{Files}
use Rattle.sv_model.specs.TableText.{IsTextOf}
use Rattle.sv_table.specs.Lookups.{op_upto}
use Rattle.sv_file_checks.specs.Checks.{BytesRefusal, Holds, ReadRefusal}

-- The bytes are a text of a table over the file's range, and this is what its newest row of the key at or below the
-- cut does.
pub record BytesTell (file : FileMeta) (key : List ℕ) (cut : ℕ) (found : Option Op) (bytes : List ℕ) : Type 0 where
  pub rows : List Kept
  pub text : IsTextOf bytes file.from file.to file.bottom rows
  pub found_is : found ≡ op_upto key cut rows

abbrev pub ContentTells : FileMeta → List ℕ → ℕ → Option Op → Option (List ℕ) → Type 0
ContentTells file key cut found None = ⊥
ContentTells file key cut found (Some bytes) = BytesTell file key cut found bytes

-- What bytes of the file answer: what they tell, or they are bad. Out of memory may stand in place of any answer.
abbrev pub BytesAnswer : FileMeta → List ℕ → List ℕ → ℕ → Result (Option Op) Refusal → Type 0
BytesAnswer file bytes key cut (Ok found) = BytesTell file key cut found bytes
BytesAnswer file bytes key cut (Err refusal.OutOfMemory) = Unit {0}
BytesAnswer file bytes key cut (Err e) = BytesRefusal file bytes e

-- ---- what a read of the file answers

-- The file tells this of the key, at the cut.
pub record FileTells (told : Option Files) (key : List ℕ) (cut : ℕ) (found : Option Op) (file : FileMeta) : Type 0
  where
    pub content : Option (List ℕ)
    pub holds : Holds told file content
    pub tells : ContentTells file key cut found content

-- What a read of the file answers: what it tells; or it is refused. Out of memory may stand in place of any answer.
abbrev pub FileAnswers : Option Files → FileMeta → List ℕ → ℕ → Result (Option Op) Refusal → Type 0
FileAnswers told file key cut (Ok found) = FileTells told key cut found file
FileAnswers told file key cut (Err e) = ReadRefusal told file e
