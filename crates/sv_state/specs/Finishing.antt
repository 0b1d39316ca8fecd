-- When a flush or a compaction may end, and what is made then.
use Rattle.std.specs.Prelude.{◌≡◌, ◌<◌, ◌≤◌, ◌++◌, ◌∷◌, if◌then◌else◌, ℕ, zero, suc, false, List, [], Option, Some, None, slice_get, drop}
use Rattle.sv_model.specs.declared.records.Family.{Family}
use Rattle.sv_model.specs.declared.records.FileMeta.{FileMeta}
use Rattle.sv_model.specs.declared.records.Memtable.{Memtable}
use Rattle.sv_model.specs.declared.records.MemtableList.{MemtableList}
use Rattle.sv_model.specs.declared.refusals.Refusal.{Refusal}
use Rattle.sv_model.specs.declared.refusals.Refusal.TheVariants.{Dropped}
use Rattle.sv_model.specs.Books.{Books}
use Rattle.sv_model.specs.Lists.{In}
use Rattle.sv_model.specs.Registers.{entry}
use Rattle.sv_objects.specs.declared.bodies.Body.{Body}
use Rattle.sv_objects.specs.declared.bodies.Held.{Held}
use Rattle.sv_objects.specs.declared.objects.Objects.{Objects}
use Rattle.sv_objects.specs.Makings.{CompactionMade, FlushMade}
use Rattle.sv_objects.specs.Shown.{shown}
use Rattle.sv_state.specs.Currents.{HasCurrentAt}

-- the refusal of what ends for a dropped family
abbrev pub finish_refusal : Option Family → Option Refusal
finish_refusal (Some f) = if f.dropped then Some Dropped else None
finish_refusal None = None

-- The number of the file is captured for the family, and this is what it covers.
pub record CanFinish (b : Books) (family : ℕ) (file : FileMeta) : Type 0 where
  pub it : Family
  pub at : slice_get b.families family ≡ Some it
  pub captured : slice_get b.files.captured family ≡ Some (Some file.number)
  pub covered : In file b.metas
  pub current : it.dropped ≡ false → HasCurrentAt b family

-- Of the members, so many at the front begin before the write, and the next one does not.
abbrev pub HasFront : List Memtable → ℕ → List ℕ → ℕ → Type 0
HasFront memtables to [] n = n ≡ 0
HasFront memtables to (m ∷ ms) zero = (it : Memtable) → entry memtables m ≡ Some it → to ≤ it.first
HasFront memtables to (m ∷ ms) (suc n) = ((it : Memtable) → entry memtables m ≡ Some it → it.first < to) × HasFront memtables to ms n

-- A SuperVersion like that of the body, with a Version of the file alone.
pub record BodyCompacted (o : Objects) (old : Body) (file : FileMeta) (p : Objects) (pack : ℕ) (new : Body) : Type 0 where
  pub held : Held
  pub frozen_are : shown held.frozen.items ≡ shown old.frozen
  pub files_are : held.files.items ≡ file ∷ []
  pub made : CompactionMade o old.descriptor old.cell file held p pack new

-- A SuperVersion like that of the body, with the file last in its Version, and without the memtables at the front of
-- its list that begin before the file's end.
pub record BodyFlushed (o : Objects) (old : Body) (file : FileMeta) (p : Objects) (pack : ℕ) (new : Body) : Type 0 where
  pub count : ℕ
  pub front : (l : MemtableList) → entry o.lists old.descriptor.list ≡ Some l → HasFront o.memtables file.to l.members count
  pub held : Held
  pub frozen_are : shown held.frozen.items ≡ shown (drop count old.frozen)
  pub files_are : held.files.items ≡ old.files ++ file ∷ []
  pub made : FlushMade o old.descriptor old.cell file count held p pack new
