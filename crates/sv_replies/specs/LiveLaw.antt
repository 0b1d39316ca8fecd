-- The files of the current Versions, as a lane with a hold is told of them.
use Rattle.std.specs.Prelude.{◌≡◌, ◌<◌, ◌≤◌, ◌↔◌, ℕ, false, List, Some, slice_get, length}
use Rattle.std.specs.List.Sorted.{IsStrictlyIncreasing}
use Rattle.sv_model.specs.declared.records.Family.{Family}
use Rattle.sv_model.specs.declared.records.FileMeta.{FileMeta}
use Rattle.sv_model.specs.Books.{Books}
use Rattle.sv_model.specs.Lists.{In}
use Rattle.sv_model.specs.Named.{numbers_of}
use Rattle.sv_model.specs.Ranges.{FilesJoin}
use Rattle.sv_model.specs.Moments.{WasCapturedFor}
use Rattle.sv_model.specs.Registers.{Has}
use Rattle.sv_replies.specs.Known.{Known}

-- the number is one of the list, captured for the family
pub record IsListedFor (books : Books) (numbers : List ℕ) (family n : ℕ) : Type 0 where
  pub listed : In n numbers
  pub captured : WasCapturedFor books family n

-- Those of the family are files whose ranges begin at 0, join without gap and reach as far as was shown.
pub record CoversFamily (books : Books) (reached family : ℕ) (numbers : List ℕ) : Type 0 where
  pub files : List FileMeta
  pub exact : (n : ℕ) → In n (numbers_of files) ↔ IsListedFor books numbers family n
  pub covers : (file : FileMeta) → In file files → In file books.metas
  pub to : ℕ
  pub joins : FilesJoin 0 files to
  pub far : reached ≤ to

-- They ascend, each was captured for a family and is named by a Version ever made, and they cover each family that
-- is not dropped.
pub record Lives (books : Books) (k : Known) (numbers : List ℕ) : Type 0 where
  pub rising : IsStrictlyIncreasing numbers
  pub captured : (n : ℕ) → In n numbers → (f : ℕ) × (f < length books.families) × WasCapturedFor books f n
  pub named : (n : ℕ) → In n numbers → Has (λ v. In n (numbers_of v.files)) books.versions
  pub covers : (f : ℕ) (x : Family) → slice_get books.families f ≡ Some x → x.dropped ≡ false
      → CoversFamily books (k.families f).reached f numbers
