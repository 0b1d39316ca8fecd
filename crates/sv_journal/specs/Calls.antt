-- What the calls on the journal give and leave.
use Rattle.std.specs.Prelude.{◌≡◌, ◌≤◌, ◌+◌, ◌==◌, ◌&&◌, ◌∷◌, ◌++◌, ℕ, Bool, true, false, cond, not, nat_le, List, [], Option, Some, None, length, unwrap_or, option_map}
use Rattle.std.specs.List.{list_all, list_any}
use Rattle.sv_model.specs.declared.writes.Write.{Write}
use Rattle.sv_model.specs.declared.records.Snapshot.{Snapshot}
use Rattle.sv_model.specs.declared.refusals.Refusal.{Refusal}
use Rattle.sv_model.specs.declared.refusals.Refusal.TheVariants as refusal
use Rattle.sv_model.specs.Lists.{bit, total}
use Rattle.sv_model.specs.Registers.{EachEntry, entry, change}
use Rattle.sv_model.specs.Refusals.{first_due}
use Rattle.sv_model.specs.Snapshots.{cut_of}
use Rattle.sv_journal.specs.Seen.{JournalSeen}
use Rattle.sv_model.specs.declared.limits.TheConstants.{MAX_SNAPSHOTS, MAX_SNAPSHOTS_LIVE, MAX_WRITES}

abbrev pub when : Bool → Refusal → Option Refusal
when due e = cond due (Some e) None

-- the refusal of a write where the journal takes no more
abbrev pub journal_refusal : List Write → Option Refusal
journal_refusal writes = when (nat_le MAX_WRITES (length writes)) refusal.JournalFull

-- ---- snapshots

-- the refusal that a snapshot meets: 1,048,576 were made, or 64 are Live
abbrev pub snap_refusal : List Snapshot → Option Refusal
snap_refusal snapshots =
    first_due (
    when (nat_le MAX_SNAPSHOTS (length snapshots)) refusal.RegisterFull
    ∷ when (nat_le MAX_SNAPSHOTS_LIVE (total (λ s. bit s.live) snapshots)) refusal.TooManySnapshots
    ∷ []
    )

-- the number is that of a Live snapshot
abbrev pub is_live_snapshot : List Snapshot → ℕ → Bool
is_live_snapshot snapshots id = unwrap_or (option_map (λ s. s.live) (entry snapshots id)) false

abbrev pub snapshot_refusal : List Snapshot → ℕ → Option Refusal
snapshot_refusal snapshots id = when (not (is_live_snapshot snapshots id)) refusal.NoSnapshot

-- A snapshot more, which reads what all writes so far leave.
pub record IsSnapped (old : JournalSeen) (id at : ℕ) (new : JournalSeen) : Type 0 where
  pub next : id ≡ length old.snapshots + 1
  pub end : at ≡ length old.writes
  pub is : new ≡ record old { snapshots = old.snapshots ++ record { at = length old.writes; live = true } ∷ [] }

-- A Live snapshot is Gone.
pub record IsUnsnapped (old : JournalSeen) (id : ℕ) (new : JournalSeen) : Type 0 where
  pub it : Snapshot
  pub found : entry old.snapshots id ≡ Some it
  pub live : it.live ≡ true
  pub is : new ≡ record old { snapshots = change old.snapshots id (record it { live = false }) }

-- the cut of a Live snapshot for the family
pub record IsCutAt (journal : JournalSeen) (id family cut : ℕ) : Type 0 where
  pub it : Snapshot
  pub found : entry journal.snapshots id ≡ Some it
  pub live : it.live ≡ true
  pub is : cut ≡ cut_of journal.writes it.at family

-- the cut is that of a Live snapshot for the family
abbrev pub is_live_cut : List Write → List Snapshot → ℕ → ℕ → Bool
is_live_cut writes snapshots family cut = list_any (λ s. s.live && (cut_of writes s.at family == cut)) snapshots

-- so is each of the cuts
abbrev pub are_live_cuts : List Write → List Snapshot → ℕ → List ℕ → Bool
are_live_cuts writes snapshots family cuts = list_all (is_live_cut writes snapshots family) cuts

-- no snapshot is Live
abbrev pub AreEnded : List Snapshot → Type 0
AreEnded snapshots = EachEntry (λ n s. s.live ≡ false) snapshots

-- the Live snapshot that was taken last
pub record IsNewest (snapshots : List Snapshot) (id : ℕ) : Type 0 where
  pub it : Snapshot
  pub found : entry snapshots id ≡ Some it
  pub live : it.live ≡ true
  pub last : EachEntry (λ n s. s.live ≡ true → n ≤ id) snapshots
