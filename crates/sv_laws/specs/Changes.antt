-- All that may happen to the books, one change at a time.
use Rattle.std.specs.Prelude.{ℕ}
use Rattle.sv_model.specs.declared.writes.Write.{Write}
use Rattle.sv_model.specs.declared.records.SuperVersion.{SuperVersion}
use Rattle.sv_model.specs.declared.records.FileMeta.{FileMeta}
use Rattle.sv_model.specs.declared.records.Family.{Family}
use Rattle.sv_model.specs.declared.records.Snapshot.{Snapshot}
use Rattle.sv_model.specs.declared.settings.Options.{Options}
use Rattle.sv_model.specs.Books.{Books}
use Rattle.sv_laws.specs.Writes.{IsWritten}
use Rattle.sv_laws.specs.NewCurrents.{IsOptionSet, IsSwitched, IsFlushed, IsCompacted, IsFamilyMade}
use Rattle.sv_laws.specs.Captures.{IsFlushBegun, IsMergePlanned, IsGivenUp}
use Rattle.sv_laws.specs.Cleaning.{IsCleaned}
use Rattle.sv_laws.specs.Families.{IsDropped, IsOpened, IsReleased, IsRetired, IsForgotten, IsCurrentEnded}
use Rattle.sv_laws.specs.Purges.{ChangesGrabbed, IsStray, ChangesHolds}
use Rattle.sv_laws.specs.Snapping.{IsSnapped, IsUnsnapped}

pub data Changes (a b : Books) : Type 0 where
  -- writes, and what makes room for them
  written : (f : ℕ) (w : Write) → IsWritten a b f w → Changes a b
  option_set : (f : ℕ) (o : Options) → IsOptionSet a b f o → Changes a b
  switched : (f : ℕ) → IsSwitched a b f → Changes a b
  -- flushes and compactions
  flush_begun : (f : ℕ) (file : FileMeta) → IsFlushBegun a b f file → Changes a b
  merge_planned : (f : ℕ) (file : FileMeta) → IsMergePlanned a b f file → Changes a b
  flushed : (f : ℕ) (file : FileMeta) → IsFlushed a b f file → Changes a b
  compacted : (f : ℕ) (file : FileMeta) → IsCompacted a b f file → Changes a b
  given_up : (f number : ℕ) → IsGivenUp a b f number → Changes a b
  -- a SuperVersion goes
  cleaned : (s : ℕ) (x : SuperVersion) → IsCleaned a b s x → Changes a b
  -- families
  created : (r : Family) → IsFamilyMade a b r → Changes a b
  opened : (f lane : ℕ) → IsOpened a b f lane → Changes a b
  dropped : (f lane : ℕ) → IsDropped a b f lane → Changes a b
  released : (f lane : ℕ) → IsReleased a b f lane → Changes a b
  retired : (f lane : ℕ) → IsRetired a b f lane → Changes a b
  forgotten : (f : ℕ) → IsForgotten a b f → Changes a b
  current_ended : (f : ℕ) → IsCurrentEnded a b f → Changes a b
  -- file numbers, holds and jobs
  grabbed : ChangesGrabbed a b → Changes a b
  stray : (n : ℕ) → IsStray a b n → Changes a b
  held : ChangesHolds a b → Changes a b
  -- snapshots
  snapped : IsSnapped a b → Changes a b
  unsnapped : (n : ℕ) (x : Snapshot) → IsUnsnapped a b n x → Changes a b
