-- A family is retired: its current waits, and goes.
use Rattle.std.proofs.Common.{◌≡◌, ⊎_elim, ℕ, true, false, List, Option, Some, None, refl, sym, ap, ◌∙◌, subst}
use Rattle.std.specs.Prelude.{slice_get}
use mathlib.Core.Logic.{dite}
use native.Mathlib.Decide.{ℕ_discrete}
use Rattle.sv_model.specs.declared.records.Top.{Top}
use Rattle.sv_model.specs.declared.sv_refs.SvRef.{SvRef}
use Rattle.sv_model.specs.Books.{Books}
use Rattle.sv_model.specs.Cells.{Cell}
use Rattle.sv_model.specs.Families.{is_retired}
use Rattle.sv_model.specs.Registers.{entry}
use Rattle.sv_model.specs.Steady.{Sound}
use Rattle.sv_model.proofs.Entries.{some}
use Rattle.sv_laws.specs.Families.{IsReleased, IsRetired, released}
use Rattle.sv_laws.specs.Growing.{IsPlaced}
use Rattle.sv_laws.proofs.GrownRegisters.{placed-set}
use Rattle.sv_laws.proofs.Handles.{not-retired}
use Rattle.sv_objects.specs.declared.bodies.Body.{Body}
use Rattle.sv_state.specs.Gone.{IsReleasedAs}
use Rattle.sv_state.specs.Refs.{IsKept, IsRefOf}
use Rattle.sv_store.specs.Cells.{CellsHold}
use Rattle.sv_store.specs.Ending.{LosesCurrent}
use Rattle.sv_store.specs.Going.{CurrentGoes, PackGoes}
use Rattle.sv_store.specs.Standing.{HaveCurrents, IsStill, Rests, Stands}
use Rattle.sv_store.specs.Writing.{CanObey}
use Rattle.sv_store.proofs.EndedCurrents.{lost-alone, lost-free, ref, super-on, was-live}
use Rattle.sv_store.proofs.FrameLaws.{family-stands}
use Rattle.sv_store.proofs.StandLaws.{one-serial}
use Rattle.sv_store.proofs.StillLaws.{cleaned-still}

module _ (a m : Books) (cells : List (Option Cell)) (h : Stands a cells None) (sound : Sound m) (f lane : ℕ) (w : IsRetired a m f lane)
    (old : Option (SvRef Body)) (kept : (t : Top) → slice_get a.tops f ≡ Some t → IsKept a t.current old) where
  abbrev loses : LosesCurrent a m f
  loses = record {
    top = w.top;
    on = w.on;
    s = w.s;
    current = w.current;
    placed = subst (λ (z : Books). IsPlaced a.tops z.tops f (record w.top { current = None })) (sym w.is) (placed-set a.tops f w.top (record w.top { current = None }) w.on);
    is = subst (λ (z : Books). z ≡ record a { families = z.families; tops = z.tops }) (sym w.is) refl;
  }

  abbrev r : (x : SvRef Body) × (old ≡ Some x) × IsRefOf a w.s x.pack x.body.value
  r = ref a m h.sound f loses old kept

  currents : HaveCurrents m
  currents g y e stands = dite (ℕ_discrete g f)
      (λ q.
      let y_is : released w.it lane ≡ y =
      some (sym (placed-set a.families f w.it (released w.it lane) w.at).here ∙ ap (λ (z : Books). slice_get z.families f) (sym w.is) ∙ ap (slice_get m.families) (sym q) ∙ e) in
      let t : true ≡ false = sym w.retired ∙ ap is_retired y_is ∙ stands in
      absurd (cc))
      (λ q.
      let c = h.currents g y (sym ((placed-set a.families f w.it (released w.it lane) w.at).others g q) ∙ ap (λ (z : Books). slice_get z.families g) (sym w.is) ∙ e) stands in
      record { top = c.top; at = loses.placed.others g q ∙ c.at; serial = c.serial; is = c.is })

  waits : Stands m cells (Some r.0.pack)
  waits = record {
    sound = sound;
    currents = currents;
    alone = lost-alone a m h.sound f loses old kept (λ n y at l. ⊎_elim (λ k. k) (λ k. absurd k) (h.alone n y at l));
    goes = lost-free a m h.sound f loses old kept;
    cells_hold = subst (λ (z : Books). CellsHold z.journal z.memtables cells) (sym w.is) h.cells_hold;
  }

  -- the current before waits
  pub retired-obeys : CanObey m cells None old
  retired-obeys = record { within = λ cell mem e. absurd (cc); r = r.0; old_is = r.1; stands = waits }

  module _ (b : Books) (x : SvRef Body) (e : old ≡ Some x) (p : PackGoes m b x.pack) where
    at-before : entry a.supers p.s ≡ Some p.x
    at-before = sym (super-on a m h.sound f loses old kept p.s) ∙ p.cleaned.at

    same : w.s ≡ p.s
    same =
        let i : IsRefOf a w.s x.pack x.body.value = subst (λ (z : SvRef Body). IsRefOf a w.s z.pack z.body.value) (some (sym r.1 ∙ e)) r.2 in
        let low = (h.sound.lawful.places w.s i.it i.at (was-live a m h.sound f loses old kept i.it i.at)).0 in
        let high = (h.sound.lawful.places p.s p.x at-before p.cleaned.live).0 in
        one-serial w.s p.s i.it.place p.x.place low high (sym i.pack_is ∙ p.pack_is)

    -- and goes
    pub retired-goes : CurrentGoes a m b f
    retired-goes = record {
      s = p.s;
      x = p.x;
      was = record { top = w.top; at = w.on; is = w.current ∙ ap Some same; has = at-before };
      cleaned = p.cleaned;
    }

    pub retired-still : IsStill a.files → IsStill b.files
    retired-still s = cleaned-still m b p.s p.x p.cleaned (subst (λ (z : Books). IsStill z.files) (sym w.is) s)

-- the lane has no handle of it any more, and the family is not retired
pub released-rests : (a m : Books) (cells : List (Option Cell)) → Rests a cells → Sound m → (name : List ℕ) (o : Option ℕ) → o ≡ None → IsReleasedAs a m 0 name o → Rests m cells
released-rests a m cells h sound name (Some f) q r = absurd (cc)
released-rests a m cells h sound name None q r =
    let w : IsReleased a m r.0 0 = r.4 in
    record {
      stands = family-stands a m cells h.stands sound r.0 w.it (released w.it 0) w.at (not-retired w.it 0 w.handle) w.is;
      still = subst (λ (z : Books). IsStill z.files) (sym w.is) h.still;
    }
