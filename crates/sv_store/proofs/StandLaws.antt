-- The store stands through an install and a cleanup.
use Rattle.std.proofs.Common.{◌≡◌, ◌≢◌, ◌<◌, ◌+◌, ◌*◌, ◌∷◌, ◌++◌, ◌⊎◌, inl, inr, ⊎_elim, ℕ, true, false, List, [], Option, Some, None, length, refl, sym, ap, ◌∙◌, subst, arith}
use Rattle.std.specs.Prelude.{slice_get}
use mathlib.Core.Logic.{dite}
use native.Mathlib.Decide.{ℕ_discrete}
use Rattle.sv_model.specs.declared.records.Family.{Family}
use Rattle.sv_model.specs.declared.records.SuperVersion.{SuperVersion}
use Rattle.sv_model.specs.declared.records.Top.{Top}
use Rattle.sv_model.specs.declared.sv_refs.SvRef.{SvRef}
use Rattle.sv_model.specs.Books.{Books}
use Rattle.sv_model.specs.Cells.{Cell}
use Rattle.sv_model.specs.Named.{HasCurrent}
use Rattle.sv_model.specs.Registers.{entry}
use Rattle.sv_model.specs.Steady.{IsCurrent, Sound}
use Rattle.sv_model.proofs.Registers.{entry_change, entry_le, entry_push, entry-old}
use Rattle.sv_model.proofs.AfterLaws.{after-through}
use Rattle.sv_laws.specs.Cleaning.{AreCellsGone, IsCleaned, without}
use Rattle.sv_laws.specs.Growing.{IsPlaced}
use Rattle.sv_laws.specs.Installs.{IsOpen}
use Rattle.sv_model.proofs.Entries.{some}
use Rattle.sv_laws.proofs.OpenFamilies.{current-top}
use Rattle.sv_objects.specs.declared.bodies.Body.{Body}
use Rattle.sv_state.specs.Follows.{Follows}
use Rattle.sv_state.specs.Gone.{IsFree}
use Rattle.sv_state.specs.Refs.{IsKept, IsRefOf}
use Rattle.sv_store.specs.Cells.{CellsHold, Vacated}
use Rattle.sv_store.specs.Going.{CurrentGoes, PackGoes}
use Rattle.sv_store.specs.Standing.{HaveCurrents, IsAloneBut, Stands}
use Rattle.sv_store.proofs.CellLaws.{cleaned-cells}

-- ---- a pack tells its serial

pub one-serial : (s t x y : ℕ) → x < 256 → y < 256 → s * 256 + x ≡ t * 256 + y → s ≡ t
one-serial s t x y p q e = omega (arith, p, q, e)

-- ---- a SuperVersion more

module _ (a b : Books) (cells new : List (Option Cell)) (h : Stands a cells None) (sound : Sound b) (f : ℕ) (x : SuperVersion) (u : Top)
    (supers : b.supers ≡ a.supers ++ x ∷ []) (tops : IsPlaced a.tops b.tops f u) (is : u.current ≡ Some (length a.supers + 1))
    (families : (g : ℕ) (y : Family) → g ≢ f → slice_get b.families g ≡ Some y → slice_get a.families g ≡ Some y)
    (hold : CellsHold b.journal b.memtables new) where
  on : (n : ℕ) (y : SuperVersion) → entry a.supers n ≡ Some y → entry b.supers n ≡ Some y
  on n y e = ap (λ l. entry l n) supers ∙ entry-old a.supers (x ∷ []) n y e

  -- a SuperVersion that was there before is no new current
  back : (g s : ℕ) (t : Top) (y : SuperVersion) → slice_get b.tops g ≡ Some t → t.current ≡ Some s → entry a.supers s ≡ Some y
      → (g ≢ f) × ((v : Top) × (slice_get a.tops g ≡ Some v) × (v.current ≡ Some s))
  back g s t y at cur e = dite (ℕ_discrete g f)
      (λ q.
      let t_is : u ≡ t = some (sym tops.here ∙ ap (slice_get b.tops) (sym q) ∙ at) in
      let s_is : length a.supers + 1 ≡ s = some (sym is ∙ ap (λ (z : Top). z.current) t_is ∙ cur) in
      absurd (omega (arith, s_is, (entry_le a.supers s y e).1)))
      (λ q. (q, (t, sym (tops.others g q) ∙ at, cur)))

  now-currents : HaveCurrents b
  now-currents g y e stands = dite (ℕ_discrete g f)
      (λ q. record { top = u; at = ap (slice_get b.tops) q ∙ tops.here; serial = length a.supers + 1; is = is })
      (λ q.
      let c = h.currents g y (families g y q e) stands in
      record { top = c.top; at = tops.others g q ∙ c.at; serial = c.serial; is = c.is })

  -- what is current now or was current of this family
  was-current : (n : ℕ) (y : SuperVersion) → entry b.supers n ≡ Some y → y.live ≡ true
      → HasCurrent b.tops n ⊎ ((entry a.supers n ≡ Some y) × ((t : Top) × (slice_get a.tops f ≡ Some t) × (t.current ≡ Some n)))
  was-current n y e live = ⊎_elim
      (λ o. ⊎_elim
      (λ (k : HasCurrent a.tops n). dite (ℕ_discrete k.0 f)
      (λ q. inr (o, (k.1, ap (slice_get a.tops) (sym q) ∙ k.2, k.3)))
      (λ q. inl (k.0, k.1, tops.others k.0 q ∙ k.2, k.3)))
      (λ w. absurd w)
      (h.alone n y o live))
      (λ o. inl (f, u, tops.here, is ∙ ap Some (sym o.0)))
      (entry_push a.supers x n y (ap (λ l. entry l n) (sym supers) ∙ e))

  -- of a family that is made
  pub made-stands : ((t : Top) → slice_get a.tops f ≡ Some t → ⊥) → Stands b new None
  made-stands none = record {
    sound = sound;
    currents = now-currents;
    alone = λ n y e live. ⊎_elim (λ k. inl k) (λ k. absurd (none k.1.0 k.1.1)) (was-current n y e live);
    goes = tt;
    cells_hold = hold;
  }

  module _ (s : ℕ) (c : SuperVersion) (o : IsOpen a f s c) (pack : ℕ) (body : Body) (r : IsRefOf a s pack body) where
    -- the current before may go
    old-free : IsFree b pack
    old-free =
        let top = current-top a h.sound.lawful f s o.current.top o.current.at o.current.is in
        let t = top.2 in
        let it_is : t.it ≡ r.it = some (sym t.at ∙ r.at) in
        record {
          serial = s;
          it = r.it;
          at = on s r.it r.at;
          live = subst (λ (z : SuperVersion). z.live ≡ true) it_is t.live;
          pack_is = r.pack_is;
          free = λ g v at cur.
              let p = back g s v r.it at cur r.at in
              let other = current-top a h.sound.lawful g s p.1.0 p.1.1 p.1.2 in
              let same_it : other.2.it ≡ t.it = some (sym other.2.at ∙ t.at) in
              p.0 (sym other.2.family_is ∙ ap (λ (z : SuperVersion). z.descriptor.family) same_it ∙ t.family_is);
        }

    only-old : (n : ℕ) (y : SuperVersion) → entry a.supers n ≡ Some y → (t : Top) → slice_get a.tops f ≡ Some t → t.current ≡ Some n → pack ≡ n * 256 + y.place
    only-old n y e t at cur =
        let q : s ≡ n = some (sym o.current.is ∙ ap (λ (z : Top). z.current) (some (sym o.current.at ∙ at)) ∙ cur) in
        let z : r.it ≡ y = some (sym r.at ∙ ap (entry a.supers) q ∙ e) in
        subst (λ (w : ℕ × SuperVersion). pack ≡ w.0 * 256 + w.1.place) (λ i. (q i, z i)) r.pack_is

    ref-stands : Stands b new (Some pack)
    ref-stands = record {
      sound = sound;
      currents = now-currents;
      alone = λ n y e live. ⊎_elim (λ k. inl k) (λ k. inr (only-old n y k.0 k.1.0 k.1.1 k.1.2)) (was-current n y e live);
      goes = old-free;
      cells_hold = hold;
    }

  stands-if : (s : ℕ) (c : SuperVersion) → IsOpen a f s c → (cur : Option ℕ) → cur ≡ Some s → (old : Option (SvRef Body)) → IsKept a cur old
      → (r : SvRef Body) × (old ≡ Some r) × Stands b new (Some r.pack)
  stands-if s c o None q old k = absurd (cc)
  stands-if s c o (Some n) q None k = absurd k
  stands-if s c o (Some n) q (Some z) k =
      (z, refl, ref-stands s c o z.pack z.body.value (subst (λ m. IsRefOf a m z.pack z.body.value) (some q) k))

  -- The current before waits.
  pub installed-stands : (s : ℕ) (c : SuperVersion) → IsOpen a f s c → (old : Option (SvRef Body)) → ((t : Top) → slice_get a.tops f ≡ Some t → IsKept a t.current old)
      → (r : SvRef Body) × (old ≡ Some r) × Stands b new (Some r.pack)
  installed-stands s c o old kept = stands-if s c o o.current.top.current o.current.is old (kept o.current.top o.current.at)

-- ---- a cleanup

module _ (b e : Books) (cells new : List (Option Cell)) (pack : ℕ) (h : Stands b cells (Some pack)) (sound : Sound e) (s : ℕ) (x : SuperVersion)
    (pack_is : pack ≡ s * 256 + x.place) (g : IsCleaned b e s x) (gone : List ℕ) (are : AreCellsGone b.memtables e.memtables gone) (v : Vacated gone cells new) where
  supers : e.supers ≡ without b.supers s x
  supers = ap (λ (z : Books). z.supers) g.is

  tops : e.tops ≡ b.tops
  tops = ap (λ (z : Books). z.tops) g.is

  families : e.families ≡ b.families
  families = ap (λ (z : Books). z.families) g.is

  within : (n : ℕ) (y : SuperVersion) → entry b.supers n ≡ Some y → y.live ≡ true → y.place < 256
  within n y at live = (h.sound.lawful.places n y at live).0

  alone : IsAloneBut e None
  alone n y at live = ⊎_elim
      (λ q. let z : true ≡ false = sym live ∙ ap (λ (w : SuperVersion). w.live) q.1 in absurd (cc))
      (λ q. ⊎_elim
      (λ (k : HasCurrent b.tops n). inl (subst (λ T. HasCurrent T n) (sym tops) k))
      (λ (w : pack ≡ n * 256 + y.place). absurd (q.0 (one-serial n s y.place x.place (within n y q.1 live) (within s x g.at g.live) (sym w ∙ pack_is))))
      (h.alone n y q.1 live))
      (entry_change b.supers s n (record x { live = false }) y (ap (λ l. entry l n) (sym supers) ∙ at))

  pub cleaned-stands : Stands e new None
  cleaned-stands = record {
    sound = sound;
    currents = λ f y at stands.
        let c = h.currents f y (ap (λ l. slice_get l f) (sym families) ∙ at) stands in
        record { top = c.top; at = ap (λ l. slice_get l f) tops ∙ c.at; serial = c.serial; is = c.is };
    alone = alone;
    goes = tt;
    cells_hold = cleaned-cells b e h.sound.lawful cells new h.cells_hold s x g gone are v;
  }

-- the pack that went is that of the current before
pub current-goes : (a m b : Books) (f s : ℕ) (c : SuperVersion) → Sound a → Sound m → IsOpen a f s c → (old : Option (SvRef Body))
    → ((t : Top) → slice_get a.tops f ≡ Some t → IsKept a t.current old) → (r : SvRef Body) → old ≡ Some r → (on : entry m.supers s ≡ Some c) → PackGoes m b r.pack → CurrentGoes a m b f
current-goes a m b f s c k l o old kept r e on p = by o.current.top.current o.current.is old (kept o.current.top o.current.at) e
  where
    by : (cur : Option ℕ) → cur ≡ Some s → (old : Option (SvRef Body)) → IsKept a cur old → old ≡ Some r → CurrentGoes a m b f
    by None q old h w = absurd (cc)
    by (Some n) q None h w = absurd h
    by (Some n) q (Some z) h w =
        let i : IsRefOf a s r.pack r.body.value = subst (λ (y : ℕ × SvRef Body). IsRefOf a y.0 y.1.pack y.1.body.value) (λ j. (some q j, some w j)) h in
        let it_is : i.it ≡ c = some (sym i.at ∙ o.current.has) in
        let top = current-top a k.lawful f s o.current.top o.current.at o.current.is in
        let t_is : top.2.it ≡ c = some (sym top.2.at ∙ o.current.has) in
        let c_live : c.live ≡ true = subst (λ (y : SuperVersion). y.live ≡ true) t_is top.2.live in
        let low : c.place < 256 = (k.lawful.places s c o.current.has c_live).0 in
        let high : p.x.place < 256 = (l.lawful.places p.s p.x p.cleaned.at p.cleaned.live).0 in
        let same : p.s ≡ s = one-serial p.s s p.x.place c.place high low (sym p.pack_is ∙ i.pack_is ∙ ap (λ (y : SuperVersion). s * 256 + y.place) it_is) in
        let x_is : p.x ≡ c = some (sym p.cleaned.at ∙ ap (entry m.supers) same ∙ on) in
        record { s = p.s; x = p.x; was = subst (λ (y : ℕ × SuperVersion). IsCurrent a.tops a.supers f y.0 y.1) (λ j. (sym same j, sym x_is j)) o.current; cleaned = p.cleaned }

pub follows-through : (a m b : Books) → Follows a m → Follows m b → Follows a b
follows-through a m b h k = record { sound = k.sound; after = after-through a m b h.after k.after }
