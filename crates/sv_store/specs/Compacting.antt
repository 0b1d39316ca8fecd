-- A compaction, from its plan to its end.
use Rattle.std.specs.Prelude.{◌≡◌, ◌⊎◌, ℕ, List, Option, None, Some}
use Rattle.sv_model.specs.declared.refusals.Refusal.{Refusal}
use Rattle.sv_model.specs.declared.refusals.Refusal.TheVariants as refusal
use Rattle.sv_model.specs.declared.records.FileMeta.{FileMeta}
use Rattle.sv_model.specs.Books.{Books}
use Rattle.sv_model.specs.Cells.{Cell}
use Rattle.sv_model.specs.Files.{Files}
use Rattle.sv_model.specs.HeldFiles.{LiveAreHeld}
use Rattle.sv_model.specs.Refusals.{IsDue}
use Rattle.sv_model.specs.Steady.{Sound}
use Rattle.sv_dir.specs.Files.{PutsFile}
use Rattle.sv_laws.specs.Captures.{IsGivenUp, IsMergePlanned}
use Rattle.sv_laws.specs.NewCurrents.{IsCompacted}
use Rattle.sv_outputs.specs.Compacting.{IsMergeOfFiles, MergeRefused}
use Rattle.sv_registry.specs.Calls.{make_refusal}
use Rattle.sv_state.specs.Planning.{MeantAt, compact_refusal}
use Rattle.sv_store.specs.Going.{Renews}
use Rattle.sv_store.specs.Outputs.{IsPlanRefused, PutsText}
use Rattle.sv_store.specs.Seen.{StoreSeen}
use Rattle.sv_store.specs.Standing.{Rests}

-- ---- the files are merged

-- The text of the merge of the tables that the files hold is put under the file's number. Where the directory holds
-- what was written, it is the text of what the file's range of the family's writes leaves.
pub record PutsMerge (b : Books) (family : ℕ) (files : List FileMeta) (file : FileMeta) (before after : Option Files) : Type 0
  where
    pub merged : (bytes : List ℕ) × IsMergeOfFiles before files file bytes × PutsFile file.number bytes before after
    pub held : (all : Files) → before ≡ Some all → LiveAreHeld b all → PutsText b.journal family file before after

-- One of the files could not be read, or the merge of them not be put. No file is bad where the directory holds what
-- was written.
pub record StopsMerge (b : Books) (files : List FileMeta) (file : FileMeta) (before after : Option Files) (e : Refusal) : Type 0
  where
    pub refused : MergeRefused files file before after e
    pub held : (all : Files) → before ≡ Some all → LiveAreHeld b all → (number place : ℕ) → e ≡ refusal.BadFile number place → ⊥

-- The store rested in these books when the number of the file was captured for the family, and nothing was done since.
pub record CanMerge (a b : Books) (cells : List (Option Cell)) (family : ℕ) (file : FileMeta) : Type 0 where
  pub rests : Rests a cells
  pub sound : Sound b
  pub planned : IsMergePlanned a b family file

-- A number is captured. The merge of the files of the family's Version is put under it, and is the one file of the
-- family's new Version; the current before is Gone.
pub record MergesFamily (a b : Books) (before after : Option Files) (family : ℕ) (file : FileMeta) : Type 0 where
  pub mid : Books
  pub planned : IsMergePlanned a mid family file
  pub puts : PutsMerge a family planned.version.files file before after
  pub renews : Renews (λ x y. IsCompacted x y family file) family mid b

-- The number that was captured is given up: the merge was not put, or no SuperVersion could be made.
pub record GivesUpMerge (a b : Books) (before after : Option Files) (family : ℕ) (e : Refusal) : Type 0 where
  pub file : FileMeta
  pub mid : Books
  pub planned : IsMergePlanned a mid family file
  pub given_up : IsGivenUp mid b family file.number
  pub why :
      StopsMerge a planned.version.files file before after e
      ⊎ (PutsMerge a family planned.version.files file before after × IsDue (make_refusal mid.supers) e)

-- ---- the whole of a compaction

-- The family that the lane means by the name is compacted, and nothing was due.
pub record Compacts (a b : Books) (before after : Option Files) (name : List ℕ) (file : FileMeta) : Type 0 where
  pub meant : MeantAt a 0 name
  pub none_due : compact_refusal a meant ≡ None
  pub merges : MergesFamily a b before after meant.family file

-- Nothing was due, and the compaction was stopped after its plan.
pub record IsStoppedCompact (a b : Books) (before after : Option Files) (name : List ℕ) (e : Refusal) : Type 0 where
  pub meant : MeantAt a 0 name
  pub none_due : compact_refusal a meant ≡ None
  pub stops : GivesUpMerge a b before after meant.family e

-- The plan was refused: the store is as it was, and the directory was not asked.
pub record IsRefusedCompact (a b : StoreSeen) (before after : Option Files) (name : List ℕ) (e : Refusal) : Type 0 where
  pub due : IsPlanRefused a.books name (compact_refusal a.books) e
  pub same : b ≡ a
  pub files : after ≡ before

abbrev pub CompactRefused : StoreSeen → StoreSeen → Option Files → Option Files → List ℕ → Refusal → Type 0
CompactRefused a b before after name e =
    IsRefusedCompact a b before after name e ⊎ IsStoppedCompact a.books b.books before after name e
