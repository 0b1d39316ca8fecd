-- What the plan of a write, of a flush and of a compaction meets, and what it tells.
use Rattle.std.specs.Prelude.{◌≡◌, ◌⊎◌, ◌&&◌, ◌==◌, ◌∷◌, cond, nat_le, nat_lt, ℕ, Bool, true, false, List, [], Option, Some, None, Result, Err, IfOk, length, slice_get}
use Rattle.sv_model.specs.declared.records.SuperVersion.{SuperVersion}
use Rattle.sv_model.specs.declared.records.Memtable.{Memtable}
use Rattle.sv_model.specs.declared.records.MemtableList.{MemtableList}
use Rattle.sv_model.specs.declared.records.Version.{Version}
use Rattle.sv_model.specs.declared.records.FileMeta.{FileMeta}
use Rattle.sv_model.specs.declared.records.Snapshot.{Snapshot}
use Rattle.sv_model.specs.declared.refusals.Refusal.{Refusal}
use Rattle.sv_model.specs.declared.refusals.Refusal.TheVariants as refusal
use Rattle.sv_model.specs.declared.settings.Options.{Options}
use Rattle.sv_model.specs.declared.writes.Write.{Write}
use Rattle.sv_model.specs.Books.{Books, FileRegister}
use Rattle.sv_model.specs.Families.{IsOwn}
use Rattle.sv_model.specs.Journal.{borne_by}
use Rattle.sv_model.specs.Refusals.{Refuses, first_due}
use Rattle.sv_model.specs.Registers.{entry}
use Rattle.sv_cells.specs.Calls.{memtables_refusal}
use Rattle.sv_family.specs.Refused.{change_refusal}
use Rattle.sv_files.specs.Calls.{capture_refusal}
use Rattle.sv_journal.specs.Calls.{are_live_cuts, journal_refusal}
use Rattle.sv_laws.specs.Installs.{IsOpen}
use Rattle.sv_objects.specs.Makings.{IsCellOf}
use Rattle.sv_registry.specs.Calls.{full_refusal, make_refusal}
use Rattle.sv_state.specs.declared.planning.Plan.{Plan}
use Rattle.sv_state.specs.declared.planning.Plan.TheVariants.{Add, Switch}
use Rattle.sv_state.specs.declared.planning.FlushPlan.{FlushPlan}
use Rattle.sv_model.specs.declared.limits.TheConstants.{MAX_SUPERS}

-- The family that the lane means by the name is not dropped, and this is its current with its list and its Version.
pub record MeantAt (b : Books) (lane : ℕ) (name : List ℕ) : Type 0 where
  pub family : ℕ
  pub serial : ℕ
  pub it : SuperVersion
  pub is_open : IsOpen b family serial it
  pub own : IsOwn lane name is_open.family
  pub list : MemtableList
  pub list_at : entry b.lists it.descriptor.list ≡ Some list
  pub version : Version
  pub version_at : entry b.versions it.descriptor.version ≡ Some version

-- the rows of the active memtable
abbrev pub active_rows : (b : Books) {lane : ℕ} {name : List ℕ} → MeantAt b lane name → ℕ
active_rows b m = length (borne_by m.it.descriptor.active b.journal)

-- a refusal that is due only in this case
abbrev pub only_if : Bool → Option Refusal → Option Refusal
only_if due fault = cond due fault None

-- ---- writes

-- a write switches first where the active memtable has so many rows
abbrev pub is_switch_due : ℕ → Options → Bool
is_switch_due rows o = nat_le o.memtable_rows rows

abbrev pub stall_refusal : ℕ → ℕ → Option Refusal
stall_refusal members most = cond (nat_le most members) (Some refusal.Stalled) None

abbrev pub switch_due : List SuperVersion → List Memtable → ℕ → ℕ → Option Refusal
switch_due supers memtables members most = first_due (stall_refusal members most ∷ memtables_refusal memtables ∷ make_refusal supers ∷ [])

abbrev pub write_due : List Write → List SuperVersion → List Memtable → ℕ → ℕ → Options → Option Refusal
write_due journal supers memtables rows members o =
    first_due (journal_refusal journal ∷ only_if (is_switch_due rows o) (switch_due supers memtables members o.max_immutable) ∷ [])

-- the refusal that a write meets
abbrev pub write_refusal : (b : Books) {lane : ℕ} {name : List ℕ} → MeantAt b lane name → Option Refusal
write_refusal b m = write_due b.journal b.supers b.memtables (active_rows b m) (length m.list.members) m.is_open.family.options

-- The row is to be added to the active memtable in this cell; a switch comes first just where it is due.
abbrev pub IsPlanOf : (b : Books) {lane : ℕ} {name : List ℕ} → MeantAt b lane name → Plan → Type 0
IsPlanOf b m (Add family cell) =
    (family ≡ m.family) × IsCellOf b.memtables m.it.descriptor.active cell × (is_switch_due (active_rows b m) m.is_open.family.options ≡ false)
IsPlanOf b m (Switch family cell) =
    (family ≡ m.family) × IsCellOf b.memtables m.it.descriptor.active cell × (is_switch_due (active_rows b m) m.is_open.family.options ≡ true)

-- The lane means no family by the name, or one that is dropped, and is told so; else it is told what the family's
-- current meets.
abbrev pub Planned : {T : Type 0} (b : Books) (lane : ℕ) (name : List ℕ) → (MeantAt b lane name → Option Refusal) → (MeantAt b lane name → T → Type 0) → Result T Refusal → Type 0
Planned b lane name fault is r =
    ((e : Refusal) × (change_refusal b.families lane name ≡ Some e) × (r ≡ Err e))
    ⊎ ((m : MeantAt b lane name) × Refuses (fault m) r × IfOk r (is m))

-- ---- flushes

abbrev pub busy_refusal : Option (Option ℕ) → Option Refusal
busy_refusal (Some (Some n)) = Some (refusal.Busy n)
busy_refusal (Some None) = None
busy_refusal None = None

-- the active memtable has no row and the list no member
abbrev pub nothing_refusal : ℕ → ℕ → Option Refusal
nothing_refusal rows members = cond ((rows == 0) && (members == 0)) (Some refusal.NothingToFlush) None

abbrev pub all_made_refusal : List SuperVersion → Option Refusal
all_made_refusal supers = cond (nat_le MAX_SUPERS (length supers)) (Some refusal.RegisterFull) None

abbrev pub flush_due : FileRegister → ℕ → List SuperVersion → List Memtable → ℕ → ℕ → Option Refusal
flush_due files family supers memtables rows members =
    first_due (busy_refusal (slice_get files.captured family) ∷ nothing_refusal rows members ∷ capture_refusal files
    ∷ only_if (nat_lt 0 rows) (first_due (all_made_refusal supers ∷ memtables_refusal memtables ∷ full_refusal supers ∷ [])) ∷ [])

abbrev pub flush_refusal : (b : Books) {lane : ℕ} {name : List ℕ} → MeantAt b lane name → Option Refusal
flush_refusal b m = flush_due b.files m.family b.supers b.memtables (active_rows b m) (length m.list.members)

-- a switch comes first where the active memtable, which is in this cell, has a row
abbrev pub IsCellIf : List Memtable → ℕ → Bool → Option ℕ → Type 0
IsCellIf memtables mem true (Some cell) = IsCellOf memtables mem cell
IsCellIf memtables mem true None = ⊥
IsCellIf memtables mem false (Some cell) = ⊥
IsCellIf memtables mem false None = Unit {0}

pub record IsFlushPlan (b : Books) {lane : ℕ} {name : List ℕ} (m : MeantAt b lane name) (plan : FlushPlan) : Type 0 where
  pub family_is : plan.family ≡ m.family
  pub cell : IsCellIf b.memtables m.it.descriptor.active (nat_lt 0 (active_rows b m)) plan.cell

-- ---- compactions

-- there is no file, or one with nothing below it, each of whose cuts a Live snapshot has
abbrev pub compacts_nothing : List Write → List Snapshot → ℕ → List FileMeta → Bool
compacts_nothing journal snapshots family [] = true
compacts_nothing journal snapshots family (f ∷ []) = f.bottom.last && are_live_cuts journal snapshots family f.bottom.cuts
compacts_nothing journal snapshots family (f ∷ (g ∷ files)) = false

abbrev pub compact_due : FileRegister → List Write → List Snapshot → ℕ → List FileMeta → Option Refusal
compact_due files journal snapshots family of =
    first_due (busy_refusal (slice_get files.captured family) ∷ only_if (compacts_nothing journal snapshots family of) (Some refusal.NothingToCompact) ∷ capture_refusal files ∷ [])

abbrev pub compact_refusal : (b : Books) {lane : ℕ} {name : List ℕ} → MeantAt b lane name → Option Refusal
compact_refusal b m = compact_due b.files b.journal b.snapshots m.family m.version.files
