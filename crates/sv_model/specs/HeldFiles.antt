-- What the files of a directory hold beside the books.
use Rattle.std.specs.Prelude.{◌≡◌, ◌≤◌, ℕ, List, None, length, IsSomeAnd}
use Rattle.std.specs.FinMap as map
use Rattle.sv_model.specs.declared.writes.Write.{Write}
use Rattle.sv_model.specs.declared.writes.Kept.{Kept}
use Rattle.sv_model.specs.declared.records.FileMeta.{FileMeta}
use Rattle.sv_model.specs.declared.records.RegisteredFile.{RegisteredFile}
use Rattle.sv_model.specs.declared.records.FileStatus.TheVariants.{Live, Gone}
use Rattle.sv_model.specs.Journal.{of_family}
use Rattle.sv_model.specs.Lists.{In}
use Rattle.sv_model.specs.Registers.{Has, EachEntry}
use Rattle.sv_model.specs.Reads.{IsCapturedFor}
use Rattle.sv_model.specs.Flat.{IsFlat}
use Rattle.sv_model.specs.TableText.{HasText, table_text}
use Rattle.sv_model.specs.Numbers.{IsRegistered}
use Rattle.sv_model.specs.Books.{Books}
use Rattle.sv_model.specs.Files.{Files, file_name, file_of}

-- The bytes are the text of the table that the file's range of writes leaves. All of these writes are made.
pub record IsFileText (journal : List Write) (family : ℕ) (file : FileMeta) (bytes : List ℕ) : Type 0 where
  pub within : file.to ≤ length (of_family family journal)
  pub rows : List Kept
  pub flat : IsFlat journal family file.from file.to file.bottom rows
  pub table : HasText file.from file.to file.bottom rows
  pub is : bytes ≡ table_text file.from file.to file.bottom rows

-- the file of that number is there, and holds the text of its range
abbrev pub HoldsText : Files → List Write → ℕ → FileMeta → Type 0
HoldsText files journal family file = IsSomeAnd (file_of file.number files) (IsFileText journal family file)

-- The number has the file that its range spells, for the family that captured it.
abbrev pub HasItsText : Books → Files → ℕ → Type 0
HasItsText b files n =
    (f : ℕ) (file : FileMeta) → Has (IsCapturedFor f n) b.files.numbers → In file b.metas → file.number ≡ n
    → HoldsText files b.journal f file

-- Each Live number has its file, also one that only an older SuperVersion names, and of a dropped family.
abbrev pub LiveAreHeld : Books → Files → Type 0
LiveAreHeld b files = (n : ℕ) → IsRegistered b.files.numbers n Live → HasItsText b files n

-- No Gone number has a file.
abbrev pub GoneAreAbsent : List RegisteredFile → Files → Type 0
GoneAreAbsent numbers files = EachEntry (λ i x. x.status ≡ Gone → file_of x.number files ≡ None) numbers

-- A name that is no registered number's is as it was.
abbrev pub OthersStay : List RegisteredFile → Files → Files → Type 0
OthersStay numbers before after =
    (name : List ℕ) → EachEntry (λ i x. file_name x.number ≡ name → ⊥) numbers → map.get after name ≡ map.get before name

-- What the files of a directory hold beside the books, where it is told what it held at the opening.
pub record FilesHold (b : Books) (first files : Files) : Type 0 where
  pub live : LiveAreHeld b files
  pub gone : GoneAreAbsent b.files.numbers files
  pub others : OthersStay b.files.numbers first files
