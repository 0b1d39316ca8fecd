-- A flush, from its plan to its end.
use Rattle.std.specs.Prelude.{◌≡◌, ◌⊎◌, ℕ, List, Option, None, length}
use Rattle.sv_model.specs.declared.refusals.Refusal.{Refusal}
use Rattle.sv_model.specs.declared.refusals.Refusal.TheVariants as refusal
use Rattle.sv_model.specs.declared.records.FileMeta.{FileMeta}
use Rattle.sv_model.specs.Books.{Books}
use Rattle.sv_model.specs.Cells.{Cell}
use Rattle.sv_model.specs.Files.{Files}
use Rattle.sv_model.specs.Journal.{of_family}
use Rattle.sv_model.specs.Refusals.{IsDue}
use Rattle.sv_laws.specs.Captures.{IsFlushBegun, IsGivenUp}
use Rattle.sv_laws.specs.NewCurrents.{IsFlushed}
use Rattle.sv_outputs.specs.Putting.{OutputRefused}
use Rattle.sv_registry.specs.Calls.{make_refusal}
use Rattle.sv_state.specs.Planning.{MeantAt, flush_refusal}
use Rattle.sv_state.specs.Seen.{StateSeen}
use Rattle.sv_store.specs.Emptying.{CanEmpty, Empties, IsEmptied}
use Rattle.sv_store.specs.Going.{Renews}
use Rattle.sv_store.specs.Outputs.{IsPlanRefused, PutsText}
use Rattle.sv_store.specs.Seen.{StoreSeen}
use Rattle.sv_store.specs.Standing.{IsStill, Stands}

-- ---- the list is written

pub record CanFlush (b : Books) (cells : List (Option Cell)) (family : ℕ) : Type 0 where
  pub stands : Stands b cells None
  pub still : IsStill b.files
  pub emptied : IsEmptied b family

-- A number is captured for the file, which covers all writes of the family that are in no file.
pub record Begins (a b : Books) (family : ℕ) (file : FileMeta) : Type 0 where
  pub begun : IsFlushBegun a b family file
  pub whole : file.to ≡ length (of_family family a.journal)

-- The file of the list is written and is the last of the family's new Version; the current before is Gone.
pub record FlushesList (a b : Books) (before after : Option Files) (family : ℕ) (file : FileMeta) : Type 0 where
  pub mid : Books
  pub begins : Begins a mid family file
  pub puts : PutsText a.journal family file before after
  pub renews : Renews (λ x y. IsFlushed x y family file) family mid b

-- The number that was captured is given up: the file was not written, or no SuperVersion could be made.
pub record GivesUpFlush (a b : Books) (before after : Option Files) (family : ℕ) (e : Refusal) : Type 0 where
  pub file : FileMeta
  pub mid : Books
  pub begins : Begins a mid family file
  pub given_up : IsGivenUp mid b family file.number
  pub why : OutputRefused file.number before after e ⊎ (PutsText a.journal family file before after × IsDue (make_refusal mid.supers) e)

-- out of memory before a number was captured
pub record StopsAtOnce (a b : Books) (before after : Option Files) (e : Refusal) : Type 0 where
  pub memory : e ≡ refusal.OutOfMemory
  pub books : b ≡ a
  pub files : after ≡ before

abbrev pub StopsFlush : Books → Books → Option Files → Option Files → ℕ → Refusal → Type 0
StopsFlush a b before after family e = StopsAtOnce a b before after e ⊎ GivesUpFlush a b before after family e

-- ---- the family is flushed

pub record CanFlushFamily (b : Books) (cells : List (Option Cell)) (family : ℕ) (cell : Option ℕ) : Type 0 where
  pub can : CanEmpty b cells family cell
  pub still : IsStill b.files

-- After a switch where the active memtable had a row, the list is written.
pub record FlushesFamily (a b : Books) (before after : Option Files) (family : ℕ) (file : FileMeta) : Type 0 where
  pub ready : Books
  pub empties : Empties a ready family
  pub flushes : FlushesList ready b before after family file

-- The switch that was due is done, and the list was not written.
pub record StopsAfter (a b : Books) (before after : Option Files) (family : ℕ) (e : Refusal) : Type 0 where
  pub ready : Books
  pub empties : Empties a ready family
  pub stops : StopsFlush ready b before after family e

-- out of memory in the switch
pub record StopsBefore (s t : StateSeen) (cells now : List (Option Cell)) (before after : Option Files) (e : Refusal) : Type 0 where
  pub memory : e ≡ refusal.OutOfMemory
  pub state : t ≡ s
  pub cells_same : now ≡ cells
  pub files : after ≡ before

-- ---- the whole of a flush

-- The family that the lane means by the name is flushed, and nothing was due.
pub record Flushes (a b : Books) (before after : Option Files) (name : List ℕ) (file : FileMeta) : Type 0 where
  pub meant : MeantAt a 0 name
  pub none_due : flush_refusal a meant ≡ None
  pub flushed : FlushesFamily a b before after meant.family file

-- Nothing was due, and the flush was stopped after its plan. The switch stays done.
pub record IsStoppedFlush (a b : Books) (before after : Option Files) (name : List ℕ) (e : Refusal) : Type 0 where
  pub meant : MeantAt a 0 name
  pub none_due : flush_refusal a meant ≡ None
  pub stops : StopsAfter a b before after meant.family e

-- The plan was refused, or memory was wanted before the switch was done: the store is as it was, and the directory
-- was not asked.
pub record IsRefusedFlush (a b : StoreSeen) (before after : Option Files) (name : List ℕ) (e : Refusal) : Type 0 where
  pub due : IsPlanRefused a.books name (flush_refusal a.books) e
  pub same : b ≡ a
  pub files : after ≡ before

abbrev pub FlushRefused : StoreSeen → StoreSeen → Option Files → Option Files → List ℕ → Refusal → Type 0
FlushRefused a b before after name e = IsRefusedFlush a b before after name e ⊎ IsStoppedFlush a.books b.books before after name e
