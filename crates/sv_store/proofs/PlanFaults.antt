-- No refusal of a plan says that the directory failed.
use Rattle.std.proofs.Common.{◌≡◌, ◌∷◌, ⊎_elim, ℕ, Bool, true, false, List, [], length, Option, Some, None, Err, refl, sym, ap, ◌∙◌, arith}
use Rattle.std.specs.Prelude.{cond, if◌then◌else◌, ◌||◌, ◌==◌, ◌&&◌, not, nat_le, nat_lt, slice_get}
use Rattle.std.specs.List.{list_any}
use Rattle.sv_model.specs.declared.limits.TheConstants.{MAX_CAPTURED}
use Rattle.sv_model.specs.declared.records.Family.{Family}
use Rattle.sv_model.specs.declared.refusals.Refusal.{Refusal}
use Rattle.sv_model.specs.declared.refusals.Refusal.TheVariants as refusal
use Rattle.sv_model.specs.Books.{Books}
use Rattle.sv_model.specs.Numbers.{captures}
use Rattle.sv_model.specs.Refusals.{IsDue, first_due}
use Rattle.sv_model.proofs.Entries.{some}
use Rattle.sv_cells.specs.Calls.{memtables_refusal}
use Rattle.sv_family.specs.Refused.{change_refusal, dropped_refusal, find_refusal, has_handle, is_own, stands}
use Rattle.sv_file_checks.specs.Faults.{CountsFault, faults_told}
use Rattle.sv_files.specs.Calls.{capture_refusal}
use Rattle.sv_registry.specs.Calls.{full_refusal}
use Rattle.sv_state.specs.Planning.{MeantAt, active_rows, all_made_refusal, busy_refusal, compact_refusal, compacts_nothing, flush_refusal, nothing_refusal, only_if}
use Rattle.sv_store.specs.Outputs.{IsPlanRefused}

abbrev IsQuiet : Option Refusal → Type 0
IsQuiet d = (e : Refusal) → d ≡ Some e → faults_told e ≡ 0

none-quiet : IsQuiet None
none-quiet e q = absurd (cc)

some-quiet : (x : Refusal) → faults_told x ≡ 0 → IsQuiet (Some x)
some-quiet x h e q = ap faults_told (sym (some q)) ∙ h

first-quiet : (d : Option Refusal) (ds : List (Option Refusal)) → IsQuiet d → IsQuiet (first_due ds) → IsQuiet (first_due (d ∷ ds))
first-quiet None ds h k = k
first-quiet (Some x) ds h k = h

when-quiet : (t : Bool) (x : Refusal) → faults_told x ≡ 0 → IsQuiet (cond t (Some x) None)
when-quiet true x h = some-quiet x h
when-quiet false x h = none-quiet

if-quiet : (t : Bool) (d : Option Refusal) → IsQuiet d → IsQuiet (cond t d None)
if-quiet true d h = h
if-quiet false d h = none-quiet

busy-quiet : (c : Option (Option ℕ)) → IsQuiet (busy_refusal c)
busy-quiet (Some (Some n)) = some-quiet (refusal.Busy n) refl
busy-quiet (Some None) = none-quiet
busy-quiet None = none-quiet

capture-quiet : (t : Bool) → IsQuiet (if t then Some refusal.RegisterFull else None)
capture-quiet true = some-quiet refusal.RegisterFull refl
capture-quiet false = none-quiet

open-told : (t : Bool) → faults_told (cond t refusal.NotOpen refusal.NoFamily) ≡ 0
open-told true = refl
open-told false = refl

change-quiet : (families : List Family) (lane : ℕ) (name : List ℕ) → IsQuiet (change_refusal families lane name)
change-quiet families lane name =
    first-quiet (find_refusal families lane name) (dropped_refusal families lane name ∷ [])
    (when-quiet (not (has_handle families lane name)) (cond (stands families name) refusal.NotOpen refusal.NoFamily) (open-told (stands families name)))
    (first-quiet (dropped_refusal families lane name) [] (when-quiet (list_any (λ f. is_own lane name f && f.dropped) families) refusal.Dropped refl) none-quiet)

flush-quiet : (b : Books) (name : List ℕ) (m : MeantAt b 0 name) → IsQuiet (flush_refusal b m)
flush-quiet b name m =
    let made = all_made_refusal b.supers in
    let cells = memtables_refusal b.memtables in
    let full = full_refusal b.supers in
    let nothing = nothing_refusal (active_rows b m) (length m.list.members) in
    let switches = only_if (nat_lt 0 (active_rows b m)) (first_due (made ∷ cells ∷ full ∷ [])) in
    first-quiet (busy_refusal (slice_get b.files.captured m.family)) (nothing ∷ capture_refusal b.files ∷ switches ∷ []) (busy-quiet (slice_get b.files.captured m.family))
    (first-quiet nothing (capture_refusal b.files ∷ switches ∷ []) (when-quiet ((active_rows b m == 0) && (length m.list.members == 0)) refusal.NothingToFlush refl)
    (first-quiet (capture_refusal b.files) (switches ∷ []) (capture-quiet (nat_le MAX_CAPTURED (captures b.files.numbers) || (b.files.next == 18446744073709551615)))
    (first-quiet switches [] (if-quiet (nat_lt 0 (active_rows b m)) (first_due (made ∷ cells ∷ full ∷ []))
    (first-quiet made (cells ∷ full ∷ []) (when-quiet _ refusal.RegisterFull refl)
    (first-quiet cells (full ∷ []) (when-quiet _ refusal.TooManyMemtables refl)
    (first-quiet full [] (when-quiet _ refusal.TooManyLive refl) none-quiet)))) none-quiet)))

due-told : (d : Option Refusal) (e : Refusal) → IsQuiet d → IsDue d e → faults_told e ≡ 0
due-told d refusal.OutOfMemory h w = refl
due-told d e h w = h e w

compact-quiet : (b : Books) (name : List ℕ) (m : MeantAt b 0 name) → IsQuiet (compact_refusal b m)
compact-quiet b name m =
    let none_left = compacts_nothing b.journal b.snapshots m.family m.version.files in
    let nothing = only_if none_left (Some refusal.NothingToCompact) in
    first-quiet (busy_refusal (slice_get b.files.captured m.family)) (nothing ∷ capture_refusal b.files ∷ []) (busy-quiet (slice_get b.files.captured m.family))
    (first-quiet nothing (capture_refusal b.files ∷ []) (when-quiet none_left refusal.NothingToCompact refl)
    (first-quiet (capture_refusal b.files) [] (capture-quiet (nat_le MAX_CAPTURED (captures b.files.numbers) || (b.files.next == 18446744073709551615))) none-quiet))

plan-told : (b : Books) (name : List ℕ) (fault : MeantAt b 0 name → Option Refusal) → ((m : MeantAt b 0 name) → IsQuiet (fault m)) → (e : Refusal)
    → IsPlanRefused b name fault e → faults_told e ≡ 0
plan-told b name fault quiet e h = ⊎_elim (λ q. change-quiet b.families 0 name e q) (λ w. due-told (fault w.0) e (quiet w.0) w.1) h

pub flush-told : (b : Books) (name : List ℕ) (e : Refusal) → IsPlanRefused b name (flush_refusal b) e → faults_told e ≡ 0
flush-told b name e h = plan-told b name (flush_refusal b) (flush-quiet b name) e h

pub compact-told : (b : Books) (name : List ℕ) (e : Refusal) → IsPlanRefused b name (compact_refusal b) e → faults_told e ≡ 0
compact-told b name e h = plan-told b name (compact_refusal b) (compact-quiet b name) e h

-- a refusal that tells no fault, where the directory was not asked
pub counts-none : {T : Type 0} (e : Refusal) (n : ℕ) → faults_told e ≡ 0 → CountsFault {T = T} (Err e) n n
counts-none e n h = record { later = omega arith; rose = grind (arith, h) }
