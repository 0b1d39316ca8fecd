-- What the tests keep beside a state, so that they may make each call.
use Rattle.std.specs.Prelude.{◌≡◌, ℕ, false, List, Option, Some, length, slice_get}
use Rattle.sv_model.specs.declared.records.Family.{Family}
use Rattle.sv_model.specs.declared.records.FileMeta.{FileMeta}
use Rattle.sv_model.specs.declared.records.SuperVersion.{SuperVersion}
use Rattle.sv_model.specs.declared.writes.Write.{Write}
use Rattle.sv_model.specs.Books.{Books}
use Rattle.sv_model.specs.Cells.{Cell}
use Rattle.sv_model.specs.Families.{is_retired}
use Rattle.sv_model.specs.Journal.{borne_by, rows_of}
use Rattle.sv_model.specs.Lists.{In}
use Rattle.sv_model.specs.Steady.{IsCurrent, Sound}
use Rattle.sv_state.specs.Currents.{HasCurrentAt}
use Rattle.sv_state.specs.Gone.{IsFree}

-- each family that is not retired has a current
abbrev pub HaveCurrents : Books → Type 0
HaveCurrents b = (f : ℕ) (x : Family) → slice_get b.families f ≡ Some x → is_retired x ≡ false → HasCurrentAt b f

-- the memtable with its rows
abbrev pub cell_of : List Write → ℕ → Cell
cell_of journal m = record { id = m; rows = rows_of (borne_by m journal) }

-- by family, the active memtable of its current
abbrev pub AreActive : Books → List Cell → Type 0
AreActive b actives = (f s : ℕ) (x : SuperVersion) → IsCurrent b.tops b.supers f s x
    → slice_get actives f ≡ Some (cell_of b.journal x.descriptor.active)

-- The number of the file is captured for the family, and this is what it covers.
pub record IsOutput (b : Books) (family : ℕ) (file : FileMeta) : Type 0 where
  pub captured : slice_get b.files.captured family ≡ Some (Some file.number)
  pub covered : In file b.metas

-- the outputs under way, each once
pub record AreOutputs (b : Books) (outputs : List (Option FileMeta)) : Type 0 where
  pub each : (i : ℕ) (file : FileMeta) → slice_get outputs i ≡ Some (Some file) → (f : ℕ) × IsOutput b f file
  pub once : (i j : ℕ) (x y : FileMeta) → slice_get outputs i ≡ Some (Some x) → slice_get outputs j ≡ Some (Some y)
      → x.number ≡ y.number → i ≡ j

-- the SuperVersions that may be cleaned up, each once
pub record AreWaiting (b : Books) (waiting : List (Option ℕ)) : Type 0 where
  pub free : (i pack : ℕ) → slice_get waiting i ≡ Some (Some pack) → IsFree b pack
  pub once : (i j pack : ℕ) → slice_get waiting i ≡ Some (Some pack) → slice_get waiting j ≡ Some (Some pack) → i ≡ j

-- No family's current was ended, no purge and no scan is under way, and what is kept beside the state is so.
pub record Stands (b : Books) (actives : List Cell) (outputs : List (Option FileMeta)) (waiting : List (Option ℕ)) : Type 0 where
  pub sound : Sound b
  pub currents : HaveCurrents b
  pub jobs : b.files.jobs ≡ 0
  pub actives_are : AreActive b actives
  pub many : length actives ≡ length b.families
  pub outputs_are : AreOutputs b outputs
  pub waiting_are : AreWaiting b waiting
