-- There is room for the objects of each family of a store that was kept.
use Rattle.std.proofs.Common.{◌≡◌, ◌<◌, ℕ, suc, false, cond, List, [], ◌∷◌, length, Option, Some, None, arith, refl, sym, ap, ◌∙◌}
use Rattle.std.proofs.lemmas.Grind.{common_steps}
use Rattle.std.specs.Prelude.{nat_le}
use Rattle.sv_model.specs.declared.openings.OpenFamily.{OpenFamily}
use Rattle.sv_model.specs.declared.refusals.Refusal.{Refusal}
use Rattle.sv_model.specs.declared.refusals.Refusal.TheVariants as refusal
use Rattle.sv_model.specs.declared.limits.TheConstants.{MAX_FAMILIES}
use Rattle.sv_model.specs.Named.{memtable_live, super_live}
use Rattle.sv_model.specs.Places.{live_count}
use Rattle.sv_model.specs.Refusals.{IsDue, first_due}
use Rattle.sv_model.proofs.RefusalLaws.{none_due-next}
use Rattle.sv_cells.specs.Calls.{memtables_refusal}
use Rattle.sv_registry.specs.Calls.{full_refusal, make_refusal}
use Rattle.sv_state.specs.declared.begun.Begun.{Begun}
use Rattle.sv_state.specs.Begun.{IsBegun}
use Rattle.sv_state.specs.Openings.{by_id, open_memtable, open_super}
use Rattle.sv_state.proofs.OpenLists.{length-by_id}

supers-live : (id : ℕ) (l : List OpenFamily) → live_count super_live (by_id open_super id l) ≡ length l
supers-live id [] = refl
supers-live id (f ∷ l) = omega (arith, supers-live (suc id) l)

memtables-live : (id : ℕ) (l : List OpenFamily) → live_count memtable_live (by_id open_memtable id l) ≡ length l
memtables-live id [] = refl
memtables-live id (f ∷ l) = omega (arith, memtables-live (suc id) l)

not-reached : (k n : ℕ) → n < k → nat_le k n ≡ false
not-reached k n h = grind (arith, common_steps)

pub none-refused : (kept : List OpenFamily) (b : Begun) → IsBegun kept b → length kept < MAX_FAMILIES
    → first_due (memtables_refusal b.objects.memtables ∷ make_refusal b.objects.supers ∷ []) ≡ None
none-refused kept b h few =
    let M = b.objects.memtables in
    let S = b.objects.supers in
    none_due-next (memtables_refusal M) (make_refusal S ∷ [])
    (ap (λ x. cond x (Some refusal.TooManyMemtables) None) (not-reached 64 (live_count memtable_live M) (omega (arith, ap (live_count memtable_live) h.memtables, memtables-live 0 kept, few))))
    (none_due-next (make_refusal S) []
    (ap (λ x. cond x (Some refusal.RegisterFull) (full_refusal S)) (not-reached 1048576 (length S) (omega (arith, ap (λ l. length l) h.supers, length-by_id open_super 0 kept, few)))
    ∙ ap (λ x. cond x (Some refusal.TooManyLive) None) (not-reached 256 (live_count super_live S) (omega (arith, ap (live_count super_live) h.supers, supers-live 0 kept, few))))
    refl)

-- where no refusal is due, want of memory alone may stand
pub only-memory : (due : Option Refusal) (e : Refusal) → due ≡ None → IsDue due e → e ≡ refusal.OutOfMemory
only-memory due refusal.OutOfMemory h d = refl
only-memory due e h d = absurd (let z : None ≡ Some e = sym h ∙ d in cc)
