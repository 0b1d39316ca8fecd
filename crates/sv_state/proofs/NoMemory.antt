-- The plan of a flush does not answer that it is out of memory.
use Rattle.std.proofs.Common.{◌≡◌, ◌∷◌, ◌∙◌, ap, sym, ℕ, Bool, true, false, cond, [], List, Option, Some, None, length}
use Rattle.std.specs.Prelude.{◌==◌, ◌&&◌, ◌||◌, not, nat_le, nat_lt, slice_get, Result, Err}
use Rattle.std.specs.List.{list_any}
use Rattle.sv_model.specs.declared.records.Family.{Family}
use Rattle.sv_model.specs.declared.records.Memtable.{Memtable}
use Rattle.sv_model.specs.declared.records.SuperVersion.{SuperVersion}
use Rattle.sv_model.specs.declared.refusals.Refusal.{Refusal}
use Rattle.sv_model.specs.declared.refusals.Refusal.TheVariants as refusal
use Rattle.sv_model.specs.declared.limits.TheConstants.{MAX_CAPTURED, MAX_CELLS, MAX_PLACES, MAX_SUPERS}
use Rattle.sv_model.specs.Books.{FileRegister}
use Rattle.sv_model.specs.Named.{memtable_live, super_live}
use Rattle.sv_model.specs.Numbers.{captures}
use Rattle.sv_model.specs.Places.{live_count}
use Rattle.sv_model.specs.Refusals.{first_due}
use Rattle.sv_cells.specs.Calls.{memtables_refusal}
use Rattle.sv_family.specs.Refused.{change_refusal, dropped_refusal, find_refusal, has_handle, is_own, stands}
use Rattle.sv_files.specs.Calls.{capture_refusal}
use Rattle.sv_registry.specs.Calls.{full_refusal}
use Rattle.sv_state.specs.Planning.{all_made_refusal, busy_refusal, flush_due, nothing_refusal, only_if}

-- out of memory is not what is due
abbrev WantsNone : Option Refusal → Type 0
WantsNone due = due ≡ Some refusal.OutOfMemory → ⊥

no-refusal : WantsNone None
no-refusal h = cc

-- the refusal of a test
tested : (due : Bool) (e : Refusal) → WantsNone (Some e) → WantsNone (cond due (Some e) None)
tested true e some = some
tested false e some = no-refusal

-- so the first refusal that is due
first : (d : Option Refusal) (ds : List (Option Refusal)) → WantsNone d → WantsNone (first_due ds) → WantsNone (first_due (d ∷ ds))
first None ds head tail = tail
first (Some e) ds head tail = head

of-find : (own stands : Bool) → WantsNone (cond (not own) (Some (cond stands refusal.NotOpen refusal.NoFamily)) None)
of-find true stands = no-refusal
of-find false true = λ h. cc
of-find false false = λ h. cc

pub change-wants-none : (families : List Family) (lane : ℕ) (name : List ℕ) → WantsNone (change_refusal families lane name)
change-wants-none families lane name =
    first (find_refusal families lane name) (dropped_refusal families lane name ∷ []) (of-find (has_handle families lane name) (stands families name))
    (first (dropped_refusal families lane name) [] (tested (list_any (λ f. is_own lane name f && f.dropped) families) refusal.Dropped (λ h. cc)) no-refusal)

of-busy : (captured : Option (Option ℕ)) → WantsNone (busy_refusal captured)
of-busy None = no-refusal
of-busy (Some None) = no-refusal
of-busy (Some (Some n)) = λ h. cc

only : (due : Bool) (d : Option Refusal) → WantsNone d → WantsNone (only_if due d)
only true d h = h
only false d h = no-refusal

pub flush-wants-none : (files : FileRegister) (family : ℕ) (supers : List SuperVersion) (memtables : List Memtable) (rows members : ℕ)
    → WantsNone (flush_due files family supers memtables rows members)
flush-wants-none files family supers memtables rows members =
    first (busy_refusal (slice_get files.captured family)) _ (of-busy (slice_get files.captured family))
    (first (nothing_refusal rows members) _ (tested ((rows == 0) && (members == 0)) refusal.NothingToFlush (λ h. cc))
    (first (capture_refusal files) _ (tested (nat_le MAX_CAPTURED (captures files.numbers) || (files.next == 18446744073709551615)) refusal.RegisterFull (λ h. cc))
    (first (only_if (nat_lt 0 rows) (first_due due)) [] (only (nat_lt 0 rows) (first_due due) switch) no-refusal)))
  where
    due : List (Option Refusal)
    due = all_made_refusal supers ∷ memtables_refusal memtables ∷ full_refusal supers ∷ []

    switch : WantsNone (first_due due)
    switch =
        first (all_made_refusal supers) _ (tested (nat_le MAX_SUPERS (length supers)) refusal.RegisterFull (λ h. cc))
        (first (memtables_refusal memtables) _ (tested (nat_le MAX_CELLS (live_count memtable_live memtables)) refusal.TooManyMemtables (λ h. cc))
        (first (full_refusal supers) [] (tested (nat_le MAX_PLACES (live_count super_live supers)) refusal.TooManyLive (λ h. cc)) no-refusal))

-- so a call that is refused exactly as is due does not tell it
pub never-told : {T : Type 0} (r : Result T Refusal) (due : Option Refusal) (e : Refusal) → WantsNone due → due ≡ Some e → r ≡ Err e → r ≡ Err refusal.OutOfMemory → ⊥
never-told r due e wants is r_is told =
    let same : Err e ≡ Err refusal.OutOfMemory = sym r_is ∙ told in
    let e_is : e ≡ refusal.OutOfMemory = cc in
    wants (is ∙ ap (λ x. Some x) e_is)
