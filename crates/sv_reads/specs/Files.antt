-- What the files of a SuperVersion say of a key, read the newest first.
use Rattle.std.specs.Prelude.{◌≡◌, ◌<◌, ℕ, min, false, List, ◌∷◌, ◌++◌, Option, Some, None, Result, Ok, Err, slice_get, option_and_then}
use Rattle.sv_model.specs.declared.records.FileMeta.{FileMeta}
use Rattle.sv_model.specs.declared.refusals.Refusal.{Refusal}
use Rattle.sv_model.specs.declared.refusals.Refusal.TheVariants as refusal
use Rattle.sv_model.specs.declared.writes.Op.{Op}
use Rattle.sv_model.specs.declared.writes.Write.{Write}
use Rattle.sv_model.specs.Files.{Files}
use Rattle.sv_model.specs.HeldFiles.{HoldsText}
use Rattle.sv_model.specs.Journal.{look, value_of}
use Rattle.sv_model.specs.Lists.{Every}
use Rattle.sv_model.specs.Ranges.{FilesJoin}
use Rattle.sv_model.specs.Snapshots.{IsClear}
use Rattle.sv_file_checks.specs.Checks.{FileIsBad}
use Rattle.sv_reads.specs.OneFile.{FileTells}

-- ---- by what the files hold

-- The file stands among the files, of which the last is the newest, and each newer one has no row of the key at or
-- below the cut.
pub record IsReached (told : Option Files) (key : List ℕ) (cut : ℕ) (files : List FileMeta) (file : FileMeta) : Type 0
  where
    pub older : List FileMeta
    pub newer : List FileMeta
    pub stands : files ≡ older ++ file ∷ newer
    pub passed : Every (FileTells told key cut None) newer

-- What a read of the files answers, the newest first: a row of the key at or below the cut decides, and so does a file
-- that is bad, or at which the directory fails. Out of memory may stand in place of any answer.
abbrev pub FilesAnswer : Option Files → List FileMeta → List ℕ → ℕ → Result (Option Op) Refusal → Type 0
FilesAnswer told files key cut (Ok None) = Every (FileTells told key cut None) files
FilesAnswer told files key cut (Ok (Some op)) =
    (file : FileMeta) × IsReached told key cut files file × FileTells told key cut (Some op) file
FilesAnswer told files key cut (Err (refusal.DirFault number)) =
    (file : FileMeta) × IsReached told key cut files file × (number ≡ file.number)
FilesAnswer told files key cut (Err (refusal.BadFile number place)) =
    (file : FileMeta) × IsReached told key cut files file × (number ≡ file.number) × FileIsBad told file place
FilesAnswer told files key cut (Err refusal.OutOfMemory) = Unit {0}
FilesAnswer told files key cut (Err e) = ⊥

-- ---- where they hold what was written

-- The files cover the first writes of the family, up to `reach`. Each holds the text of its range, and is clear of the
-- cut; nothing lies below none but the first.
pub record Serve (all : Files) (journal : List Write) (family : ℕ) (files : List FileMeta) (reach cut : ℕ) : Type 0
  where
    pub joins : FilesJoin 0 files reach
    pub held : Every (HoldsText all journal family) files
    pub clear : Every (IsClear cut) files
    pub above : (i : ℕ) (file : FileMeta) → slice_get files i ≡ Some file → 0 < i → file.bottom.last ≡ false

-- The value that the op leaves is that of the key up to the cut; and no file was bad.
abbrev pub Looks : List Write → ℕ → ℕ → List ℕ → Result (Option Op) Refusal → Type 0
Looks journal family cut key (Ok found) = look journal family cut key ≡ option_and_then value_of found
Looks journal family cut key (Err (refusal.BadFile number place)) = ⊥
Looks journal family cut key (Err e) = Unit {0}

-- Where the directory tells files that serve the body, the answer is that of the family's writes up to the cut.
abbrev pub LooksServed : Option Files → List FileMeta → List ℕ → ℕ → Result (Option Op) Refusal → Type 0
LooksServed told files key cut result =
    (all : Files) (journal : List Write) (family reach : ℕ) → told ≡ Some all
    → Serve all journal family files reach cut → Looks journal family (min cut reach) key result
