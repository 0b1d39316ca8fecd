-- The store rests after each call that makes a SuperVersion.
use Rattle.std.proofs.Common.{◌≡◌, ◌+◌, ℕ, List, length, Option, Some, None, refl, sym, ap, ◌∙◌, subst, arith}
use Rattle.std.specs.Prelude.{slice_get}
use Rattle.sv_model.specs.declared.records.Family.{Family}
use Rattle.sv_model.specs.declared.records.Memtable.{Memtable}
use Rattle.sv_model.specs.declared.records.Top.{Top}
use Rattle.sv_model.specs.declared.settings.OptionName.{OptionName}
use Rattle.sv_model.specs.declared.sv_refs.SvRef.{SvRef}
use Rattle.sv_model.specs.Books.{Books}
use Rattle.sv_model.specs.Cells.{Cell}
use Rattle.sv_model.specs.Registers.{entry}
use Rattle.sv_model.specs.Steady.{Sound}
use Rattle.sv_model.proofs.Registers.{entry-new}
use Rattle.sv_laws.specs.Growing.{IsPlaced}
use Rattle.sv_laws.specs.Installs.{live_super, next_top}
use Rattle.sv_laws.specs.NewCurrents.{IsFamilyMade}
use Rattle.sv_laws.proofs.BorneRows.{mem-within, unborne}
use Rattle.sv_laws.proofs.GrownRegisters.{get_within, placed-push, placed-set}
use Rattle.sv_model.proofs.Entries.{some}
use Rattle.sv_objects.specs.declared.bodies.Body.{Body}
use Rattle.sv_state.specs.declared.installs.Install.{Install}
use Rattle.sv_state.specs.Changing.{IsSet}
use Rattle.sv_state.specs.Refs.{IsKept}
use Rattle.sv_state.specs.Writing.{TellsSwitch}
use Rattle.sv_store.specs.Cells.{CellsHold, filled}
use Rattle.sv_store.specs.Standing.{IsStill, Rests, Stands}
use Rattle.sv_store.specs.Writing.{CanObey}
use Rattle.sv_store.proofs.CellLaws.{filled-cells}
use Rattle.sv_store.proofs.StandLaws.{installed-stands, made-stands}

-- an option is set: the current before waits
pub set-obeys : (a b : Books) (cells : List (Option Cell)) → Stands a cells None → Sound b → (lane : ℕ) (name : List ℕ) (option : OptionName) (value f : ℕ) → IsSet a b lane name option value f
    → (old : Option (SvRef Body)) → ((t : Top) → slice_get a.tops f ≡ Some t → IsKept a t.current old) → CanObey b cells None old
set-obeys a b cells h sound lane name option value f i old kept =
    let o = i.set in
    let p = placed-set a.tops f o.is_open.current.top (next_top a o.c.descriptor.version) o.is_open.current.at in
    let q = placed-set a.families f o.is_open.family (record o.is_open.family { options = _ }) o.is_open.family_at in
    let r = installed-stands a b cells cells h sound f (live_super (record o.c.descriptor { options = _ }) o.place) (next_top a o.c.descriptor.version)
    (ap (λ (z : Books). z.supers) o.is)
    (subst (λ l. IsPlaced a.tops l f (next_top a o.c.descriptor.version)) (sym (ap (λ (z : Books). z.tops) o.is)) p)
    refl
    (λ g y d e. sym (q.others g d) ∙ ap (λ (z : Books). slice_get z.families g) (sym o.is) ∙ e)
    (subst (λ (z : Books). CellsHold z.journal z.memtables cells) (sym o.is) h.cells_hold)
    o.s o.c o.is_open old kept in
    record { within = λ cell mem e. absurd (cc); r = r.0; old_is = r.1; stands = r.2 }

-- a family is made, and its memtable takes its cell
pub made-rests : (a b : Books) (cells : List (Option Cell)) → Rests a cells → Sound b → (r : Family) → IsFamilyMade a b r → (install : Install) → TellsSwitch a b (length a.families) install
    → Rests b (filled cells install.vacant)
made-rests a b cells rests sound r m install t =
    let h = rests.stands in
    let ms = ap (λ (z : Books). z.memtables) m.is in
    let q : t.memtable.cell ≡ m.cell = ap (λ (z : Memtable). z.cell) (some (sym t.memtable_at ∙ ap (λ l. entry l (length a.memtables + 1)) ms ∙ entry-new a.memtables _ (length a.memtables + 1) refl)) in
    let none = unborne a.journal (length a.memtables + 1) (λ i w e. omega (arith, mem-within (length a.memtables) (length a.families) w (h.sound.steady.borne i w e))) in
    let hold : CellsHold b.journal b.memtables (filled cells (Some (t.memtable.cell, length a.memtables + 1))) =
    subst (λ (z : ℕ × Books). CellsHold z.1.journal z.1.memtables (filled cells (Some (z.0, length a.memtables + 1)))) (λ i. (sym q i, sym m.is i))
    (filled-cells a.journal a.memtables cells h.cells_hold _ m.cell_room refl none) in
    let u : Top = next_top a (length a.versions + 1) in
    record {
      stands = made-stands a b cells (filled cells install.vacant) h sound (length a.tops) _ u
          (ap (λ (z : Books). z.supers) m.is)
          (subst (λ l. IsPlaced a.tops l (length a.tops) u) (sym (ap (λ (z : Books). z.tops) m.is)) (placed-push a.tops u))
          refl
          (λ g y d e. sym ((placed-push a.families r).others g (λ z. d (z ∙ sym h.sound.lawful.paired))) ∙ ap (λ (z : Books). slice_get z.families g) (sym m.is) ∙ e)
          (subst (λ v. CellsHold b.journal b.memtables (filled cells v)) (sym t.vacant) hold)
          (λ v e. omega (arith, get_within a.tops (length a.tops) v e));
      still = subst (λ (z : Books). IsStill z.files) (sym m.is) rests.still;
    }
