-- The tables that files hold, and which of the files is refused.
use Rattle.std.specs.Prelude.{◌≡◌, ℕ, List, [], ◌∷◌, ◌++◌, Option, Some, IfSome}
use Rattle.sv_model.specs.declared.records.FileMeta.{FileMeta}
use Rattle.sv_model.specs.declared.refusals.Refusal.{Refusal}
use Rattle.sv_model.specs.declared.refusals.Refusal.TheVariants as refusal
use Rattle.sv_model.specs.declared.tables.Table.{Table}
use Rattle.sv_model.specs.Files.{Files, file_of}
use Rattle.sv_model.specs.Lists.{Every}
use Rattle.sv_model.specs.TableText.{IsTextOf}
use Rattle.sv_file_checks.specs.Checks.{BytesRefusal, IsGoodFile, ReadRefusal}

-- ---- one file

-- The bytes are a text of the table, which is over the file's range.
pub record IsTableOver (file : FileMeta) (bytes : List ℕ) (table : Table) : Type 0 where
  pub from_is : table.from ≡ file.from
  pub to_is : table.to ≡ file.to
  pub bottom_is : table.bottom ≡ file.bottom
  pub text : IsTextOf bytes table.from table.to table.bottom table.rows

-- bytes of the file were refused, or out of memory
abbrev pub TableRefusal : FileMeta → List ℕ → Refusal → Type 0
TableRefusal file bytes (refusal.BadFile number place) = BytesRefusal file bytes (refusal.BadFile number place)
TableRefusal file bytes refusal.OutOfMemory = Unit {0}
TableRefusal file bytes e = ⊥

-- The file holds a text of the table, where the directory tells its files.
pub record IsRead (told : Option Files) (file : FileMeta) (table : Table) : Type 0 where
  pub bytes : List ℕ
  pub held : IfSome told (λ files. file_of file.number files ≡ Some bytes)
  pub over : IsTableOver file bytes table

-- ---- several

-- so it is of each of the files, in their order
abbrev pub AreRead : Option Files → List FileMeta → List Table → Type 0
AreRead told [] [] = Unit {0}
AreRead told [] (table ∷ tables) = ⊥
AreRead told (file ∷ files) [] = ⊥
AreRead told (file ∷ files) (table ∷ tables) = IsRead told file table × AreRead told files tables

-- the file is good, where the directory tells its files
abbrev pub IsGoodIn : Option Files → FileMeta → Type 0
IsGoodIn told file = IfSome told (λ files. IsGoodFile file (file_of file.number files))

-- The file is one of the files, and each before it is good.
pub record IsReached (told : Option Files) (files : List FileMeta) (file : FileMeta) : Type 0 where
  pub older : List FileMeta
  pub newer : List FileMeta
  pub stands : files ≡ older ++ file ∷ newer
  pub good : Every (IsGoodIn told) older

-- A read of the files was refused at the first of them that could not be read, the oldest first.
pub record ReadsRefused (told : Option Files) (files : List FileMeta) (e : Refusal) : Type 0 where
  pub file : FileMeta
  pub reached : IsReached told files file
  pub refused : ReadRefusal told file e
