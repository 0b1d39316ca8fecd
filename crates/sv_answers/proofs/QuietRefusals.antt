-- Refusals that tell no failure of the directory: those of the commands that ask nothing of it.
use Rattle.std.proofs.Common.{◌≡◌, ◌==◌, ◌&&◌, ⊎_elim, ℕ, Bool, true, false, not, List, [], ◌∷◌, length, Option, Some, None, refl, sym, ap, subst, cond, ◌∙◌, arith}
use Rattle.std.specs.Prelude.{Err, nat_le}
use Rattle.std.specs.List.{list_any}
use Rattle.std.specs.Str.{bytes_eq}
use Rattle.sv_model.specs.declared.keys.TheConstants.{MAX_KEY}
use Rattle.sv_model.specs.declared.limits.TheConstants.{MAX_CELLS, MAX_FAMILIES, MAX_HOLDS, MAX_PLACES, MAX_SNAPSHOTS, MAX_SNAPSHOTS_LIVE, MAX_SUPERS, MAX_WRITES}
use Rattle.sv_model.specs.declared.values.TheConstants.{MAX_VALUE}
use Rattle.sv_model.specs.declared.records.Family.{Family}
use Rattle.sv_model.specs.declared.records.Memtable.{Memtable}
use Rattle.sv_model.specs.declared.records.Snapshot.{Snapshot}
use Rattle.sv_model.specs.declared.records.SuperVersion.{SuperVersion}
use Rattle.sv_model.specs.declared.refusals.Refusal.{Refusal}
use Rattle.sv_model.specs.declared.refusals.Refusal.TheVariants as refusal
use Rattle.sv_model.specs.declared.settings.OptionName.{OptionName}
use Rattle.sv_model.specs.declared.writes.Row.{Row}
use Rattle.sv_model.specs.Books.{Books}
use Rattle.sv_model.specs.Families.{default_name, greatest_of}
use Rattle.sv_model.specs.Lists.{bit, total}
use Rattle.sv_model.specs.Named.{memtable_live, super_live}
use Rattle.sv_model.specs.Places.{live_count}
use Rattle.sv_model.specs.Refusals.{IsDue, first_due, key_refusal, value_refusal}
use Rattle.sv_cells.specs.Calls.{memtables_refusal}
use Rattle.sv_family.specs.Refused.{change_refusal, create_refusal, default_refusal, drop_refusal, dropped_refusal, find_refusal, handle_refusal, has_handle, is_own, limit_refusal, open_refusal, option_refusal, release_refusal, set_refusal, stands, taken_refusal, when}
use Rattle.sv_files.specs.Calls.{hold_refusal, unhold_refusal}
use Rattle.sv_journal.specs.Calls.{is_live_snapshot, journal_refusal, snap_refusal, snapshot_refusal}
use Rattle.sv_registry.specs.Calls.{full_refusal, make_refusal}
use Rattle.sv_script.specs.Answered.{fault_by}
use Rattle.sv_script.specs.declared.replies.Reply.{Reply}
use Rattle.sv_script.specs.declared.replies.Reply.TheVariants as reply
use Rattle.sv_state.specs.Planning.{MeantAt, active_rows, is_switch_due, only_if, stall_refusal, switch_due, write_refusal}
use Rattle.sv_store.specs.Seen.{StoreSeen}
use Rattle.sv_store.specs.Writing.{Writes}
use Rattle.sv_answers.specs.Answered.{CountsReply}

-- a reply that tells no failure, where nothing was asked of the directory
pub counts-quiet : (r : Reply) (count : ℕ) → fault_by r ≡ 0 → CountsReply r count count
counts-quiet r count none = record { later = omega arith; rose = omega (arith, none) }

-- ---- what is due

-- 1 where the refusal that is due tells a failure of the directory
abbrev pub told_by : Option Refusal → ℕ
told_by None = 0
told_by (Some e) = fault_by (reply.Refused e)

pub due-quiet : (d : Option Refusal) → told_by d ≡ 0 → (e : Refusal) → IsDue d e → fault_by (reply.Refused e) ≡ 0
due-quiet d none refusal.OutOfMemory h = refl
due-quiet d none e h = subst (λ o. told_by o ≡ 0) h none

pub exactly-quiet : (d : Option Refusal) → told_by d ≡ 0 → (e : Refusal) → d ≡ Some e → fault_by (reply.Refused e) ≡ 0
exactly-quiet d none e h = subst (λ o. told_by o ≡ 0) h none

first-quiet : (d : Option Refusal) (ds : List (Option Refusal)) → told_by d ≡ 0 → told_by (first_due ds) ≡ 0 → told_by (first_due (d ∷ ds)) ≡ 0
first-quiet None ds here later = later
first-quiet (Some e) ds here later = here

last-quiet : (d : Option Refusal) → told_by d ≡ 0 → told_by (first_due (d ∷ [])) ≡ 0
last-quiet d here = first-quiet d [] here refl

test-quiet : (b : Bool) (x y : Option Refusal) → told_by x ≡ 0 → told_by y ≡ 0 → told_by (cond b x y) ≡ 0
test-quiet true x y p q = p
test-quiet false x y p q = q

when-quiet : (b : Bool) (e : Refusal) → fault_by (reply.Refused e) ≡ 0 → told_by (when b e) ≡ 0
when-quiet b e p = test-quiet b (Some e) None p refl

-- ---- holds and snapshots

pub hold-quiet : (count : ℕ) → told_by (hold_refusal count) ≡ 0
hold-quiet count = when-quiet (count == MAX_HOLDS) refusal.TooManyHolds refl

pub unhold-quiet : (count : ℕ) → told_by (unhold_refusal count) ≡ 0
unhold-quiet count = when-quiet (count == 0) refusal.NoHold refl

pub snap-quiet : (snapshots : List Snapshot) → told_by (snap_refusal snapshots) ≡ 0
snap-quiet snapshots =
    first-quiet (when (nat_le MAX_SNAPSHOTS (length snapshots)) refusal.RegisterFull)
    (when (nat_le MAX_SNAPSHOTS_LIVE (total (λ (s : Snapshot). bit s.live) snapshots)) refusal.TooManySnapshots ∷ [])
    (when-quiet (nat_le MAX_SNAPSHOTS (length snapshots)) refusal.RegisterFull refl)
    (last-quiet (when (nat_le MAX_SNAPSHOTS_LIVE (total (λ (s : Snapshot). bit s.live) snapshots)) refusal.TooManySnapshots)
    (when-quiet (nat_le MAX_SNAPSHOTS_LIVE (total (λ (s : Snapshot). bit s.live) snapshots)) refusal.TooManySnapshots refl))

pub unsnap-quiet : (snapshots : List Snapshot) (id : ℕ) → told_by (snapshot_refusal snapshots id) ≡ 0
unsnap-quiet snapshots id = when-quiet (not (is_live_snapshot snapshots id)) refusal.NoSnapshot refl

-- ---- keys and values

pub key-quiet : (n : ℕ) → told_by (key_refusal n) ≡ 0
key-quiet n = test-quiet (nat_le 1 n && nat_le n MAX_KEY) None (Some (refusal.KeyLength n)) refl refl

pub row-quiet : (key value : ℕ) → told_by (first_due (key_refusal key ∷ value_refusal value ∷ [])) ≡ 0
row-quiet key value =
    first-quiet (key_refusal key) (value_refusal value ∷ []) (key-quiet key)
    (last-quiet (value_refusal value) (test-quiet (nat_le value MAX_VALUE) None (Some (refusal.ValueLength value)) refl refl))

-- ---- SuperVersions and memtables

make-quiet : (supers : List SuperVersion) → told_by (make_refusal supers) ≡ 0
make-quiet supers = test-quiet (nat_le MAX_SUPERS (length supers)) (Some refusal.RegisterFull) (full_refusal supers) refl
    (test-quiet (nat_le MAX_PLACES (live_count super_live supers)) (Some refusal.TooManyLive) None refl refl)

memtables-quiet : (memtables : List Memtable) → told_by (memtables_refusal memtables) ≡ 0
memtables-quiet memtables = test-quiet (nat_le MAX_CELLS (live_count memtable_live memtables)) (Some refusal.TooManyMemtables) None refl refl

-- ---- families

module _ (families : List Family) (name : List ℕ) where
  default-quiet : told_by (default_refusal name) ≡ 0
  default-quiet = when-quiet (bytes_eq name default_name) refusal.IsDefault refl

  find-quiet : told_by (find_refusal families 0 name) ≡ 0
  find-quiet = when-quiet (not (has_handle families 0 name)) (cond (stands families name) refusal.NotOpen refusal.NoFamily) (either (stands families name))
    where
      either : (b : Bool) → fault_by (reply.Refused (cond b refusal.NotOpen refusal.NoFamily)) ≡ 0
      either true = refl
      either false = refl

  dropped-quiet : told_by (dropped_refusal families 0 name) ≡ 0
  dropped-quiet = when-quiet (list_any (λ f. is_own 0 name f && f.dropped) families) refusal.Dropped refl

  change-quiet : told_by (change_refusal families 0 name) ≡ 0
  change-quiet = first-quiet (find_refusal families 0 name) (dropped_refusal families 0 name ∷ []) find-quiet (last-quiet (dropped_refusal families 0 name) dropped-quiet)

  pub release-quiet : told_by (release_refusal families 0 name) ≡ 0
  release-quiet = first-quiet (default_refusal name) (find_refusal families 0 name ∷ []) default-quiet (last-quiet (find_refusal families 0 name) find-quiet)

  pub drop-quiet : told_by (drop_refusal families 0 name) ≡ 0
  drop-quiet = first-quiet (release_refusal families 0 name) (dropped_refusal families 0 name ∷ []) release-quiet (last-quiet (dropped_refusal families 0 name) dropped-quiet)

  handle-quiet : told_by (handle_refusal families 0 name) ≡ 0
  handle-quiet = when-quiet (has_handle families 0 name) refusal.AlreadyOpen refl

  pub open-quiet : told_by (open_refusal families 0 name) ≡ 0
  open-quiet = first-quiet (handle_refusal families 0 name) (when (not (stands families name)) refusal.NoFamily ∷ []) handle-quiet
      (last-quiet (when (not (stands families name)) refusal.NoFamily) (when-quiet (not (stands families name)) refusal.NoFamily refl))

  named-quiet : told_by (create_refusal families 0 name) ≡ 0
  named-quiet = first-quiet (taken_refusal families name) (handle_refusal families 0 name ∷ limit_refusal families ∷ [])
      (when-quiet (stands families name) refusal.NameTaken refl)
      (first-quiet (handle_refusal families 0 name) (limit_refusal families ∷ []) handle-quiet
      (last-quiet (limit_refusal families) (when-quiet (nat_le MAX_FAMILIES (length families)) refusal.TooManyFamilies refl)))

  pub create-quiet : (memtables : List Memtable) (supers : List SuperVersion)
      → told_by (first_due (create_refusal families 0 name ∷ memtables_refusal memtables ∷ make_refusal supers ∷ [])) ≡ 0
  create-quiet memtables supers =
      first-quiet (create_refusal families 0 name) (memtables_refusal memtables ∷ make_refusal supers ∷ []) named-quiet
      (first-quiet (memtables_refusal memtables) (make_refusal supers ∷ []) (memtables-quiet memtables) (last-quiet (make_refusal supers) (make-quiet supers)))

  pub set-quiet : (option : OptionName) (value : ℕ) (supers : List SuperVersion)
      → told_by (first_due (set_refusal families 0 name option value ∷ make_refusal supers ∷ [])) ≡ 0
  set-quiet option value supers =
      first-quiet (set_refusal families 0 name option value) (make_refusal supers ∷ [])
      (first-quiet (option_refusal option value) (change_refusal families 0 name ∷ [])
      (when-quiet (not (nat_le 1 value && nat_le value (greatest_of option))) (refusal.BadOption value 1 (greatest_of option)) refl)
      (last-quiet (change_refusal families 0 name) change-quiet))
      (last-quiet (make_refusal supers) (make-quiet supers))

-- ---- writes

moment-quiet : (b : Books) (name : List ℕ) (m : MeantAt b 0 name) → told_by (write_refusal b m) ≡ 0
moment-quiet b name m =
    let most = m.is_open.family.options.max_immutable in
    let members = length m.list.members in
    let due = is_switch_due (active_rows b m) m.is_open.family.options in
    let all = switch_due b.supers b.memtables members most in
    first-quiet (journal_refusal b.journal) (only_if due all ∷ [])
    (when-quiet (nat_le MAX_WRITES (length b.journal)) refusal.JournalFull refl)
    (last-quiet (only_if due all) (test-quiet due all None
    (first-quiet (stall_refusal members most) (memtables_refusal b.memtables ∷ make_refusal b.supers ∷ [])
    (test-quiet (nat_le most members) (Some refusal.Stalled) None refl refl)
    (first-quiet (memtables_refusal b.memtables) (make_refusal b.supers ∷ []) (memtables-quiet b.memtables) (last-quiet (make_refusal b.supers) (make-quiet b.supers))))
    refl))

pub write-quiet : (a b : StoreSeen) (name : List ℕ) (row : Row) (e : Refusal) → Writes a b name row (Err e) → fault_by (reply.Refused e) ≡ 0
write-quiet a b name row e w = ⊎_elim
    (λ h.
    let same : e ≡ h.0 = (let q : Err e ≡ Err h.0 = h.2 in cc) in
    exactly-quiet (change_refusal a.books.families 0 name) (change-quiet a.books.families name) e (h.1 ∙ ap Some (sym same)))
    (λ h. due-quiet (write_refusal a.books h.0) (moment-quiet a.books name h.0) e h.1)
    w.answers
