-- A family loses its current, which waits, and goes.
use Rattle.std.proofs.Common.{◌≡◌, ◌+◌, ◌*◌, inl, inr, ⊎_elim, ℕ, true, false, Option, Some, None, refl, sym, ap, ◌∙◌, subst}
use Rattle.std.specs.Prelude.{slice_get}
use mathlib.Core.Logic.{dite}
use native.Mathlib.Decide.{ℕ_discrete}
use Rattle.sv_model.specs.declared.records.SuperVersion.{SuperVersion}
use Rattle.sv_model.specs.declared.records.Top.{Top}
use Rattle.sv_model.specs.declared.sv_refs.SvRef.{SvRef}
use Rattle.sv_model.specs.Books.{Books}
use Rattle.sv_model.specs.Named.{HasCurrent}
use Rattle.sv_model.specs.Registers.{entry}
use Rattle.sv_model.specs.Steady.{Sound}
use Rattle.sv_model.proofs.Entries.{some}
use Rattle.sv_model.proofs.Registers.{entry_change}
use Rattle.sv_laws.specs.Cleaning.{IsCleaned}
use Rattle.sv_laws.proofs.OpenFamilies.{current-top}
use Rattle.sv_objects.specs.declared.bodies.Body.{Body}
use Rattle.sv_state.specs.Gone.{IsFree}
use Rattle.sv_state.specs.Refs.{IsKept, IsRefOf}
use Rattle.sv_store.specs.Ending.{LosesCurrent}
use Rattle.sv_store.specs.Standing.{IsAlone, IsAloneBut}
use Rattle.sv_store.proofs.StandLaws.{one-serial}

module _ (a m : Books) (sound : Sound a) (f : ℕ) (w : LosesCurrent a m f)
    (old : Option (SvRef Body)) (kept : (t : Top) → slice_get a.tops f ≡ Some t → IsKept a t.current old) where
  pub kept-ref : (cur : Option ℕ) → cur ≡ Some w.s → (x : Option (SvRef Body)) → IsKept a cur x → (r : SvRef Body) × (x ≡ Some r) × IsRefOf a w.s r.pack r.body.value
  kept-ref None q x k = absurd (cc)
  kept-ref (Some n) q None k = absurd k
  kept-ref (Some n) q (Some z) k = (z, refl, subst (λ i. IsRefOf a i z.pack z.body.value) (some q) k)

  abbrev pub ref : (r : SvRef Body) × (old ≡ Some r) × IsRefOf a w.s r.pack r.body.value
  ref = kept-ref w.top.current w.current old (kept w.top w.on)

  pub super-on : (n : ℕ) → entry m.supers n ≡ entry a.supers n
  super-on n = ap (λ (z : Books). entry z.supers n) w.is

  pub was-live : (it : SuperVersion) → entry a.supers w.s ≡ Some it → it.live ≡ true
  was-live it at =
      let t = (current-top a sound.lawful f w.s w.top w.on w.current).2 in
      subst (λ (z : SuperVersion). z.live ≡ true) (some (sym t.at ∙ at)) t.live

  -- what is current of no family now was the current of this one
  pub lost-alone : IsAlone a → IsAloneBut m (Some ref.0.pack)
  lost-alone h n y at l =
      let k : HasCurrent a.tops n = h n y (sym (super-on n) ∙ at) l in
      dite (ℕ_discrete k.0 f)
      (λ q.
      let n_is : w.s ≡ n = some (sym w.current ∙ ap (λ (z : Top). z.current) (some (sym w.on ∙ ap (slice_get a.tops) (sym q) ∙ k.2)) ∙ k.3) in
      let it_is : ref.2.it ≡ y = some (sym ref.2.at ∙ ap (entry a.supers) n_is ∙ sym (super-on n) ∙ at) in
      inr (subst (λ (z : ℕ × SuperVersion). ref.0.pack ≡ z.0 * 256 + z.1.place) (λ i. (n_is i, it_is i)) ref.2.pack_is))
      (λ q. inl (k.0, k.1, w.placed.others k.0 q ∙ k.2, k.3))

  pub free : (g : ℕ) (t : Top) → slice_get m.tops g ≡ Some t → t.current ≡ Some w.s → ⊥
  free g t e cur = dite (ℕ_discrete g f)
      (λ q.
      let z : None ≡ Some w.s = ap (λ (x : Top). x.current) (some (sym w.placed.here ∙ ap (slice_get m.tops) (sym q) ∙ e)) ∙ cur in
      absurd (cc))
      (λ q.
      let here = (current-top a sound.lawful f w.s w.top w.on w.current).2 in
      let there = (current-top a sound.lawful g w.s t (sym (w.placed.others g q) ∙ e) cur).2 in
      q (sym there.family_is ∙ ap (λ (z : SuperVersion). z.descriptor.family) (some (sym there.at ∙ here.at)) ∙ here.family_is))

  -- it can be cleaned up
  abbrev pub lost-free : IsFree m ref.0.pack
  lost-free = record {
    serial = w.s;
    it = ref.2.it;
    at = super-on w.s ∙ ref.2.at;
    live = was-live ref.2.it ref.2.at;
    pack_is = ref.2.pack_is;
    free = free;
  }

  -- and nothing but currents is Live then
  pub gone-alone : IsAlone a → (b : Books) → IsCleaned m b w.s ref.2.it → IsAlone b
  gone-alone h b g n y at l =
      let supers = ap (λ (z : Books). z.supers) g.is in
      ⊎_elim
      (λ q. let z : true ≡ false = sym l ∙ ap (λ (x : SuperVersion). x.live) q.1 in absurd (cc))
      (λ q. ⊎_elim
      (λ (k : HasCurrent m.tops n). subst (λ (z : Books). HasCurrent z.tops n) (sym g.is) k)
      (λ (p : ref.0.pack ≡ n * 256 + y.place).
      let at_a : entry a.supers n ≡ Some y = sym (super-on n) ∙ q.1 in
      let low = (sound.lawful.places n y at_a l).0 in
      let high = (sound.lawful.places w.s ref.2.it ref.2.at (was-live ref.2.it ref.2.at)).0 in
      absurd (q.0 (one-serial n w.s y.place ref.2.it.place low high (sym p ∙ ref.2.pack_is))))
      (lost-alone h n y q.1 l))
      (entry_change m.supers w.s n (record ref.2.it { live = false }) y (ap (λ l. entry l n) (sym supers) ∙ at))
