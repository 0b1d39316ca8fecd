-- What a read answers.
use Rattle.std.specs.Prelude.{◌≡◌, ◌≤◌, ℕ, List, [], Option, Some, None, Result, Ok, Err, IsSomeAnd, length, option_and_then, slice_get}
use Rattle.sv_model.specs.declared.records.FileMeta.{FileMeta}
use Rattle.sv_model.specs.declared.records.SuperVersion.{SuperVersion}
use Rattle.sv_model.specs.declared.records.Version.{Version}
use Rattle.sv_model.specs.declared.refusals.Refusal.{Refusal}
use Rattle.sv_model.specs.declared.refusals.Refusal.TheVariants as refusal
use Rattle.sv_model.specs.declared.writes.Op.{Op}
use Rattle.sv_model.specs.Books.{Books}
use Rattle.sv_model.specs.Families.{IsOwn}
use Rattle.sv_model.specs.Files.{Files}
use Rattle.sv_model.specs.Flat.{range_of}
use Rattle.sv_model.specs.HeldFiles.{LiveAreHeld}
use Rattle.sv_model.specs.Journal.{look, newest_op, of_family, value_of}
use Rattle.sv_model.specs.Lists.{In}
use Rattle.sv_model.specs.Moments.{WasCapturedFor}
use Rattle.sv_model.specs.Named.{numbers_of}
use Rattle.sv_model.specs.Ranges.{reach_of}
use Rattle.sv_model.specs.Registers.{entry}
use Rattle.sv_model.specs.Snapshots.{IsClear, IsLastFile}
use Rattle.sv_model.specs.Steady.{IsCurrent}
use Rattle.sv_reads.specs.Files.{FilesAnswer}
use Rattle.sv_state.specs.Currents.{HasCurrentAt}
use Rattle.sv_store.specs.declared.reads.Got.{Got}

-- ---- where a family is read

-- the number of the family's writes
abbrev pub IsEnd : Books → ℕ → ℕ → Type 0
IsEnd b family cut = cut ≡ length (of_family family b.journal)

-- The family has a current, of which each file tells what was there at the cut.
pub record CanReadAt (b : Books) (family cut : ℕ) : Type 0 where
  pub current : HasCurrentAt b family
  pub within : cut ≤ length (of_family family b.journal)
  pub clear : (file : FileMeta) → IsLastFile b.versions b.tops family file → IsClear cut file

-- The SuperVersion of this serial is the family's current, and has this Version.
pub record IsThrough (b : Books) (family serial : ℕ) (version : Version) : Type 0 where
  pub super : SuperVersion
  pub current : IsCurrent b.tops b.supers family serial super
  pub version_at : entry b.versions super.descriptor.version ≡ Some version

-- ---- what is found

-- What the newest write of the key does, among those up to the cut that stand in no file of the Version.
abbrev pub newest_unfiled : Books → ℕ → Version → List ℕ → ℕ → Option Op
newest_unfiled b family version key cut = newest_op key (range_of b.journal family (reach_of version.files) cut)

-- The value is the one that files leave, of which the newest with a row of the key at or below the cut decides.
pub record IsInFiles (told : Option Files) (files : List FileMeta) (key : List ℕ) (cut : ℕ) (value : Option (List ℕ)) : Type 0
  where
    pub found : Option Op
    pub answer : FilesAnswer told files key cut (Ok found)
    pub value_is : option_and_then value_of found ≡ value

-- A read of the family at the cut found this value, through the SuperVersion of this serial.
pub record Finds (b : Books) (told : Option Files) (family : ℕ) (key : List ℕ) (cut : ℕ) (value : Option (List ℕ))
    (serial : ℕ) : Type 0 where
  pub version : Version
  pub through : IsThrough b family serial version
  -- a write that stands in no file decides
  pub above : (o : Op) → newest_unfiled b family version key cut ≡ Some o → value_of o ≡ value
  -- where there is none, the files do
  pub below : newest_unfiled b family version key cut ≡ None → IsInFiles told version.files key cut value
  -- it is what the writes leave where there is no file, and where the directory tells that it holds what was written
  pub alone : version.files ≡ [] → look b.journal family cut key ≡ value
  pub held : (all : Files) → told ≡ Some all → LiveAreHeld b all → look b.journal family cut key ≡ value

-- what a read of the lane's family of the name found, at the cut that the family has
pub record Gets (b : Books) (told : Option Files) (name key : List ℕ) (IsCutOf : ℕ → ℕ → Type 0) (got : Got) : Type 0
  where
    pub family : ℕ
    pub own : IsSomeAnd (slice_get b.families family) (IsOwn 0 name)
    pub cut_is : IsCutOf family got.cut
    pub finds : Finds b told family key got.cut got.value got.sv

-- ---- refusals

-- the number of the refusal is that of a file of the Version, which was captured for the family
abbrev pub NamesFile : Books → ℕ → Version → Refusal → Type 0
NamesFile b family version (refusal.DirFault number) = In number (numbers_of version.files) × WasCapturedFor b family number
NamesFile b family version (refusal.BadFile number place) = In number (numbers_of version.files) × WasCapturedFor b family number
NamesFile b family version e = ⊥

-- No write that stands in no file decides; the read came to a file that is bad, or at which the directory failed. No
-- file is bad where the directory tells that it holds what was written.
pub record StopsAtFile (b : Books) (told : Option Files) (family : ℕ) (key : List ℕ) (cut : ℕ) (e : Refusal) : Type 0
  where
    pub serial : ℕ
    pub version : Version
    pub through : IsThrough b family serial version
    pub below : newest_unfiled b family version key cut ≡ None
    pub answer : FilesAnswer told version.files key cut (Err e)
    pub names : NamesFile b family version e
    pub held : (all : Files) → told ≡ Some all → LiveAreHeld b all → (number place : ℕ) → e ≡ refusal.BadFile number place → ⊥

-- why a read of the family at the cut was refused; out of memory may stand in place of any answer
abbrev pub Stops : Books → Option Files → ℕ → List ℕ → ℕ → Refusal → Type 0
Stops b told family key cut refusal.OutOfMemory = Unit {0}
Stops b told family key cut e = StopsAtFile b told family key cut e

pub record GetStops (b : Books) (told : Option Files) (name key : List ℕ) (IsCutOf : ℕ → ℕ → Type 0) (e : Refusal) : Type 0
  where
    pub family : ℕ
    pub own : IsSomeAnd (slice_get b.families family) (IsOwn 0 name)
    pub cut : ℕ
    pub cut_is : IsCutOf family cut
    pub stops : Stops b told family key cut e

-- The call is refused just as is due; where nothing is, it may stop so.
abbrev pub RefusesOr : {T : Type 0} → Option Refusal → (Refusal → Type 0) → Result T Refusal → Type 0
RefusesOr due Stops (Ok x) = due ≡ None
RefusesOr None Stops (Err e) = Stops e
RefusesOr (Some d) Stops (Err e) = e ≡ d
