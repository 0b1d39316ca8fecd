-- What is kept beside the writes and the snapshots.
use Rattle.std.specs.Prelude.{◌≡◌, ◌<◌, ◌≤◌, ℕ, true, List, Some, length, slice_get}
use Rattle.sv_model.specs.declared.writes.Write.{Write}
use Rattle.sv_model.specs.declared.records.Snapshot.{Snapshot}
use Rattle.sv_model.specs.Journal.{of_family}
use Rattle.sv_model.specs.Lists.{In, Every, bit, total}
use Rattle.sv_model.specs.Registers.{entry, EachEntry}
use Rattle.sv_model.specs.Snapshots.{cut_of}
use Rattle.sv_journal.specs.declared.live.LiveSnapshot.{LiveSnapshot}
use Rattle.sv_model.specs.declared.limits.TheConstants.{MAX_FAMILIES, MAX_SNAPSHOTS, MAX_SNAPSHOTS_LIVE, MAX_WRITES}

-- the counts are those of the families' writes
abbrev pub AreCounts : List Write → List ℕ → Type 0
AreCounts writes counts = (f : ℕ) → f < MAX_FAMILIES → slice_get counts f ≡ Some (length (of_family f writes))

-- the snapshot that is kept so
abbrev pub snapshot_of : LiveSnapshot → Snapshot
snapshot_of r = record { at = r.at; live = true }

-- its cuts are those of its place, which lies in the journal
pub record HasCuts (writes : List Write) (r : LiveSnapshot) : Type 0 where
  pub within : r.at ≤ length writes
  pub cuts : (f : ℕ) → f < MAX_FAMILIES → slice_get r.cuts f ≡ Some (cut_of writes r.at f)

-- one was taken before the other
pub record Precedes (r t : LiveSnapshot) : Type 0 where
  pub id : r.id < t.id
  pub at : r.at ≤ t.at

-- the snapshot of this number stands here, or none does
pub record IsPlaceOf (live : List LiveSnapshot) (number place : ℕ) : Type 0 where
  pub it : LiveSnapshot
  pub at : slice_get live place ≡ Some it
  pub is : it.id ≡ number

abbrev pub IsNone : List LiveSnapshot → ℕ → Type 0
IsNone live number = Every (λ r. r.id ≡ number → ⊥) live

-- The Live snapshots, each once, in the order in which they were taken.
pub record AreLive (writes : List Write) (snapshots : List Snapshot) (live : List LiveSnapshot) : Type 0 where
  pub each : Every (λ r. entry snapshots r.id ≡ Some (snapshot_of r)) live
  pub all : EachEntry (λ n s. s.live ≡ true → (r : LiveSnapshot) × In r live × (r.id ≡ n)) snapshots
  pub order : (i j : ℕ) (r t : LiveSnapshot) → slice_get live i ≡ Some r → slice_get live j ≡ Some t → i < j → Precedes r t
  pub cuts : Every (HasCuts writes) live
  pub count : length live ≡ total (λ s. bit s.live) snapshots
  pub few : length live ≤ MAX_SNAPSHOTS_LIVE
  pub made : length snapshots ≤ MAX_SNAPSHOTS

pub record IsJournal (writes : List Write) (numbers : List ℕ) (snapshots : List Snapshot) (readers : List LiveSnapshot) : Type 0 where
  pub few : length writes ≤ MAX_WRITES
  pub counts : AreCounts writes numbers
  pub live : AreLive writes snapshots readers
