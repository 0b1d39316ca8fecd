-- What the removals of files leave, of their register and of the directory.
use Rattle.std.specs.Prelude.{◌≡◌, ◌≤◌, ◌==◌, ◌⊎◌, ℕ, if◌then◌else◌, List, Option, Some, None, Result, Ok, Err, map, length, slice_get}
use Rattle.std.specs.FinMap as finite
use Rattle.std.specs.List.{list_any}
use Rattle.sv_model.specs.declared.records.RegisteredFile.{RegisteredFile}
use Rattle.sv_model.specs.declared.records.FileStatus.TheVariants.{Gone}
use Rattle.sv_model.specs.declared.refusals.Refusal.{Refusal}
use Rattle.sv_model.specs.declared.refusals.Refusal.TheVariants as refusal
use Rattle.sv_model.specs.Books.{FileRegister}
use Rattle.sv_model.specs.Faults.{RoseBy}
use Rattle.sv_model.specs.Files.{Files, file_name, file_of}
use Rattle.sv_model.specs.Lists.{In, IsChosen, IsPartOf}
use Rattle.sv_dir.specs.declared.dir.DirError.{DirError}
use Rattle.sv_dir.specs.declared.dir.DirError.TheVariants as dir_error

-- ---- the register

-- the number is Gone where it is one of these
abbrev pub ended : List ℕ → RegisteredFile → RegisteredFile
ended gone f = record f { status = if list_any (λ n. n == f.number) gone then Gone else f.status }

-- These numbers are Gone, and nothing else of the register changed.
abbrev pub with_gone : FileRegister → List ℕ → FileRegister
with_gone r gone = record r { numbers = map (ended gone) r.numbers }

-- Of the numbers that were tried, in their order, these are Gone, and those are left: all others.
pub record AreTried (tried gone left : List ℕ) : Type 0 where
  pub gone_are : IsPartOf gone tried
  pub left_are : IsChosen (λ n. In n gone → ⊥) tried left

-- ---- the directory

-- what contracts see of the directory: its files before a call and after it, where it tells them, and its count of faults
pub record DirSeen : Type 0 where
  pub files : Option Files
  pub later : Option Files
  pub before : ℕ
  pub now : ℕ

-- nothing was asked of the directory
pub record IsUntouched (d : DirSeen) : Type 0 where
  pub files : d.later ≡ d.files
  pub faults : d.now ≡ d.before

-- The files of these numbers are not there any more. Those of the numbers that were left are as they were or not there,
-- and the others as they were.
pub record FilesGo (gone left : List ℕ) (before after : Files) : Type 0 where
  pub absent : (n : ℕ) → In n gone → file_of n after ≡ None
  pub same_or_absent : (n : ℕ) → In n left → (file_of n after ≡ file_of n before) ⊎ (file_of n after ≡ None)
  pub others : (name : List ℕ) → ((n : ℕ) → In n gone ⊎ In n left → file_name n ≡ name → ⊥) → finite.get after name ≡ finite.get before name

-- The files go so where the directory tells them, which it does before and after, or not at all.
abbrev pub FilesGoIfTold : List ℕ → List ℕ → Option Files → Option Files → Type 0
FilesGoIfTold gone left None None = Unit {0}
FilesGoIfTold gone left (Some before) (Some after) = FilesGo gone left before after
FilesGoIfTold gone left before after = ⊥

-- ---- all together

-- Each of the numbers was tried once: these are Gone, those are left as they were.
pub record Removes (old new : FileRegister) (d : DirSeen) (numbers gone left : List ℕ) : Type 0 where
  pub tried : AreTried numbers gone left
  pub is : new ≡ with_gone old gone
  pub files : FilesGoIfTold gone left d.files d.later
  pub later : d.before ≤ d.now

-- What is answered where numbers are left: out of memory where a removal ran out of it; else the first of them, and the
-- directory failed at each.
abbrev pub LeftAs : List ℕ → DirSeen → Refusal → Type 0
LeftAs left d (refusal.DirFault number) = (slice_get left 0 ≡ Some number) × RoseBy (length left) d.before d.now
LeftAs left d refusal.OutOfMemory = 1 ≤ length left
LeftAs left d e = ⊥

-- Each of the numbers was tried once, and some are left.
pub record RemovesSome (old new : FileRegister) (d : DirSeen) (numbers : List ℕ) (e : Refusal) : Type 0 where
  pub gone : List ℕ
  pub left : List ℕ
  pub removes : Removes old new d numbers gone left
  pub answer : LeftAs left d e

-- what is answered once one removal more has ended so
abbrev pub refused_after : {T : Type 0} → Option Refusal → ℕ → Result T DirError → Option Refusal
refused_after refused number (Ok x) = refused
refused_after refused number (Err dir_error.OutOfMemory) = Some refusal.OutOfMemory
refused_after None number (Err dir_error.Failed) = Some (refusal.DirFault number)
refused_after (Some e) number (Err dir_error.Failed) = Some e
