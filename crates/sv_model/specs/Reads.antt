-- What an answer to a command says of the books.
use Rattle.std.specs.Prelude.{◌≡◌, ◌≤◌, ℕ, Bool, true, List, Option, Some, IsSomeAnd}
use Rattle.sv_model.specs.declared.writes.Write.{Write}
use Rattle.sv_model.specs.declared.writes.Op.{Op}
use Rattle.sv_model.specs.declared.records.SuperVersion.{SuperVersion}
use Rattle.sv_model.specs.declared.records.RegisteredFile.{RegisteredFile}
use Rattle.sv_model.specs.declared.records.FileMeta.{FileMeta}
use Rattle.sv_model.specs.Journal.{of_family, look}
use Rattle.sv_model.specs.Lists.{In}
use Rattle.sv_model.specs.Registers.{entry, Has}
use Rattle.sv_model.specs.Books.{Books, end_of}

-- the write is the lane's, of this key and op
pub record IsWrite (lane : ℕ) (key : List ℕ) (op : Op) (w : Write) : Type 0 where
  pub lane_is : w.lane ≡ lane
  pub key_is : w.key ≡ key
  pub op_is : w.op ≡ op

-- The n-th write of the family is the lane's, of this key and op.
abbrev pub IsWrittenAt : Books → ℕ → ℕ → List ℕ → Op → ℕ → Type 0
IsWrittenAt books lane family key op n = IsSomeAnd (entry (of_family family books.journal) n) (IsWrite lane key op)

-- the SuperVersion is of the family, and it ends at the cut or after it
pub record Serves (books : Books) (family cut : ℕ) (s : SuperVersion) : Type 0 where
  pub family_is : s.descriptor.family ≡ family
  pub begins : s.descriptor.base ≤ cut
  pub ends : cut ≤ end_of books.journal s

-- A get used the SuperVersion of this serial, and found what the first `cut` writes of the family leave. What it
-- found in table files is promised where the directory tells its files.
pub record LooksAt (told : Bool) (books : Books) (family : ℕ) (key : List ℕ) (found : Option (List ℕ)) (cut serial : ℕ) : Type 0 where
  pub serves : IsSomeAnd (entry books.supers serial) (Serves books family cut)
  pub found_is : told ≡ true → look books.journal family cut key ≡ found

-- the number was captured for the family
pub record IsCapturedFor (family number : ℕ) (f : RegisteredFile) : Type 0 where
  pub number_is : f.number ≡ number
  pub family_is : f.family ≡ Some family

-- The file was captured for the family, and a Version ever made names it.
pub record IsOutput (books : Books) (family : ℕ) (file : FileMeta) : Type 0 where
  pub captured : Has (IsCapturedFor family file.number) books.files.numbers
  pub covers : In file books.metas
  pub named : Has (λ v. In file v.files) books.versions
