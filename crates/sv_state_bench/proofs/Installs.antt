-- The tests' state stands when a SuperVersion becomes a family's current.
use Rattle.std.proofs.Common.{◌≡◌, ◌≢◌, ◌<◌, ◌+◌, ◌*◌, ◌∷◌, ◌++◌, ◌⊎◌, inl, inr, ⊎_elim, ℕ, List, [], length, set, Option, Some, None, refl, sym, ap, ◌∙◌, subst, arith, length-set, length-append}
use Rattle.std.specs.Option.{option_map}
use Rattle.std.specs.Prelude.{slice_get}
use mathlib.Core.Logic.{dite}
use native.Mathlib.Decide.{ℕ_discrete}
use Rattle.sv_model.specs.declared.records.Family.{Family}
use Rattle.sv_model.specs.declared.records.FileMeta.{FileMeta}
use Rattle.sv_model.specs.declared.records.SuperVersion.{SuperVersion}
use Rattle.sv_model.specs.declared.records.Top.{Top}
use Rattle.sv_model.specs.declared.sv_refs.SvRef.{SvRef}
use Rattle.sv_model.specs.Books.{Books}
use Rattle.sv_model.specs.Cells.{Cell}
use Rattle.sv_model.specs.Journal.{rows_of}
use Rattle.sv_model.specs.Registers.{entry}
use Rattle.sv_model.specs.Steady.{Sound}
use Rattle.sv_model.proofs.Registers.{entry_le, entry-new, entry-old}
use Rattle.sv_model.proofs.Entries.{some}
use Rattle.sv_laws.specs.Growing.{IsPlaced}
use Rattle.sv_laws.specs.Installs.{live_super, next_top}
use Rattle.sv_laws.specs.NewCurrents.{IsCompacted, IsFamilyMade, IsFlushed, IsOptionSet, IsSwitched}
use Rattle.sv_laws.proofs.GrownRegisters.{placed-push, placed-same, placed-set, placed_get}
use Rattle.sv_laws.proofs.OpenFamilies.{current-top, fresh-mem}
use Rattle.sv_laws.proofs.BorneRows.{mem-within, unborne}
use Rattle.sv_objects.specs.declared.bodies.Body.{Body}
use Rattle.sv_state.specs.Gone.{IsFree}
use Rattle.sv_state.specs.Refs.{IsKept, IsRefOf}
use Rattle.sv_state_bench.proofs.CurrentRefs.{only, top-live}
use Rattle.sv_state_bench.specs.Standing.{AreActive, AreOutputs, AreWaiting, HaveCurrents, Stands, cell_of}

-- the pack of the reference
abbrev pub pack_of : Option (SvRef Body) → Option ℕ
pack_of old = option_map (λ r. r.pack) old

one-serial : (s t x y : ℕ) → x < 256 → y < 256 → s * 256 + x ≡ t * 256 + y → s ≡ t
one-serial s t x y p q e = omega (arith, p, q, e)

-- ---- one more that waits

pub none-waits : (b : Books) (W : List (Option ℕ)) → AreWaiting b W → AreWaiting b (W ++ None ∷ [])
none-waits b W h = record {
  free = λ i p e. h.free i p (was i p e);
  once = λ i j p d e. h.once i j p (was i p d) (was j p e);
}
  where
    was : (i p : ℕ) → slice_get (W ++ None ∷ []) i ≡ Some (Some p) → slice_get W i ≡ Some (Some p)
    was i p e = ⊎_elim
        (λ q. let z : Some p ≡ None = q.1 in absurd (cc))
        (λ q. q.1)
        (placed_get W (W ++ None ∷ []) (length W) None (placed-push W None) i (Some p) e)

pub one-waits : (b : Books) (W : List (Option ℕ)) (pack : ℕ) → AreWaiting b W → IsFree b pack → ((i : ℕ) → slice_get W i ≡ Some (Some pack) → ⊥) → AreWaiting b (W ++ Some pack ∷ [])
one-waits b W pack h new none = record {
  free = λ i p e. ⊎_elim (λ q. subst (IsFree b) (sym q.1) new) (λ q. h.free i p q) (was i p e);
  once = λ i j p d e. ⊎_elim
      (λ u. ⊎_elim (λ v. u.0 ∙ sym v.0) (λ v. absurd (none j (v ∙ ap (λ z. Some (Some z)) u.1))) (was j p e))
      (λ u. ⊎_elim (λ v. absurd (none i (u ∙ ap (λ z. Some (Some z)) v.1))) (λ v. h.once i j p u v) (was j p e))
      (was i p d);
}
  where
    was : (i p : ℕ) → slice_get (W ++ Some pack ∷ []) i ≡ Some (Some p) → ((i ≡ length W) × (p ≡ pack)) ⊎ (slice_get W i ≡ Some (Some p))
    was i p e = ⊎_elim
        (λ q. inl (q.0, some q.1))
        (λ q. inr q.1)
        (placed_get W (W ++ Some pack ∷ []) (length W) (Some pack) (placed-push W (Some pack)) i (Some p) e)

-- the current before, of which this is a reference, waits nowhere yet
pub not-waiting : (a : Books) (k : Sound a) (W : List (Option ℕ)) (h : AreWaiting a W) (f s : ℕ) (t : Top) (at : slice_get a.tops f ≡ Some t) (is : t.current ≡ Some s) (pack : ℕ) (body : Body)
    (r : IsRefOf a s pack body) → (i : ℕ) → slice_get W i ≡ Some (Some pack) → ⊥
not-waiting a k W h f s t at is pack body r i e =
    let w = h.free i pack e in
    let p = (k.lawful.places s r.it r.at (top-live a k f s t at is pack body r)).0 in
    let q = (k.lawful.places w.serial w.it w.at w.live).0 in
    let n : s ≡ w.serial = one-serial s w.serial r.it.place w.it.place p q (sym r.pack_is ∙ w.pack_is) in
    w.free f t at (is ∙ ap Some n)

-- ---- a SuperVersion more

module _ (a b : Books) (A B : List Cell) (O P : List (Option FileMeta)) (W : List (Option ℕ)) (h : Stands a A O W) (sound : Sound b) (f : ℕ) (x : SuperVersion) (u : Top)
    (journal : b.journal ≡ a.journal) (supers : b.supers ≡ a.supers ++ x ∷ []) (tops : IsPlaced a.tops b.tops f u) (is : u.current ≡ Some (length a.supers + 1))
    (families : (g : ℕ) (y : Family) → g ≢ f → slice_get b.families g ≡ Some y → slice_get a.families g ≡ Some y)
    (actives : IsPlaced A B f (cell_of a.journal x.descriptor.active)) (many : length B ≡ length b.families) (jobs : b.files.jobs ≡ 0) (outs : AreOutputs b P) where
  on : (n : ℕ) (y : SuperVersion) → entry a.supers n ≡ Some y → entry b.supers n ≡ Some y
  on n y e = ap (λ l. entry l n) supers ∙ entry-old a.supers (x ∷ []) n y e

  -- a SuperVersion that was there before is no new current
  back : (g s : ℕ) (t : Top) (y : SuperVersion) → slice_get b.tops g ≡ Some t → t.current ≡ Some s → entry a.supers s ≡ Some y
      → (g ≢ f) × ((v : Top) × (slice_get a.tops g ≡ Some v) × (v.current ≡ Some s))
  back g s t y at cur e = dite (ℕ_discrete g f)
      (λ q.
      let t_is : u ≡ t = some (sym tops.here ∙ ap (slice_get b.tops) (sym q) ∙ at) in
      let s_is : length a.supers + 1 ≡ s = some (sym is ∙ ap (λ (z : Top). z.current) t_is ∙ cur) in
      absurd (omega (arith, s_is, (entry_le a.supers s y e).1)))
      (λ q. (q, (t, sym (tops.others g q) ∙ at, cur)))

  now-currents : HaveCurrents b
  now-currents g y e stands = dite (ℕ_discrete g f)
      (λ q. record { top = u; at = ap (slice_get b.tops) q ∙ tops.here; serial = length a.supers + 1; is = is })
      (λ q.
      let c = h.currents g y (families g y q e) stands in
      record { top = c.top; at = tops.others g q ∙ c.at; serial = c.serial; is = c.is })

  now-active : AreActive b B
  now-active g s y c = dite (ℕ_discrete g f)
      (λ q.
      let t_is : u ≡ c.top = some (sym tops.here ∙ ap (slice_get b.tops) (sym q) ∙ c.at) in
      let s_is : length a.supers + 1 ≡ s = some (sym is ∙ ap (λ (z : Top). z.current) t_is ∙ c.is) in
      let y_is : x ≡ y = some (sym (ap (λ l. entry l (length a.supers + 1)) supers ∙ entry-new a.supers x (length a.supers + 1) refl) ∙ ap (entry b.supers) s_is ∙ c.has) in
      ap (slice_get B) q ∙ actives.here ∙ ap (λ (z : SuperVersion). Some (cell_of a.journal z.descriptor.active)) y_is ∙ ap (λ J. Some (cell_of J y.descriptor.active)) (sym journal))
      (λ q.
      let at : slice_get a.tops g ≡ Some c.top = sym (tops.others g q) ∙ c.at in
      let t = current-top a h.sound.lawful g s c.top at c.is in
      let y_is : t.2.it ≡ y = some (sym (on s t.2.it t.2.at) ∙ c.has) in
      actives.others g q ∙ h.actives_are g s y (record { top = c.top; at = at; is = c.is; has = t.2.at ∙ ap Some y_is })
      ∙ ap (λ J. Some (cell_of J y.descriptor.active)) (sym journal))

  waits-on : AreWaiting b W
  waits-on = record {
    free = λ i p e.
        let w = h.waiting_are.free i p e in
        record {
          serial = w.serial;
          it = w.it;
          at = on w.serial w.it w.at;
          live = w.live;
          pack_is = w.pack_is;
          free = λ g t at cur. let v = (back g w.serial t w.it at cur w.at).1 in w.free g v.0 v.1 v.2;
        };
    once = h.waiting_are.once;
  }

  stands-with : (V : List (Option ℕ)) → AreWaiting b V → Stands b B P V
  stands-with V w = record {
    sound = sound;
    currents = now-currents;
    jobs = jobs;
    actives_are = now-active;
    many = many;
    outputs_are = outs;
    waiting_are = w;
  }

  -- of a family that is made
  pub made : Stands b B P W
  made = stands-with W waits-on

  module _ (t : Top) (at : slice_get a.tops f ≡ Some t) where
    old-waits : (cur : Option ℕ) → t.current ≡ cur → (old : Option (SvRef Body)) → IsKept a cur old → AreWaiting b (W ++ pack_of old ∷ [])
    old-waits None q None k = none-waits b W waits-on
    old-waits None q (Some r) k = absurd k
    old-waits (Some s) q None k = absurd k
    old-waits (Some s) q (Some r) k =
        one-waits b W r.pack waits-on
        (record {
          serial = s;
          it = k.it;
          at = on s k.it k.at;
          live = top-live a h.sound f s t at q r.pack r.body.value k;
          pack_is = k.pack_is;
          free = λ g v e cur.
              let p = back g s v k.it e cur k.at in
              p.0 (only a h.sound f s t at q r.pack r.body.value k g p.1.0 p.1.1 p.1.2);
        })
        (not-waiting a h.sound W h.waiting_are f s t at q r.pack r.body.value k)

    -- the current before waits
    pub installed : (old : Option (SvRef Body)) → ((t : Top) → slice_get a.tops f ≡ Some t → IsKept a t.current old) → Stands b B P (W ++ pack_of old ∷ [])
    installed old kept = stands-with (W ++ pack_of old ∷ []) (old-waits t.current refl old (kept t at))

-- ---- the calls

module _ (a b : Books) (A : List Cell) (O : List (Option FileMeta)) (W : List (Option ℕ)) (h : Stands a A O W) (sound : Sound b) where
  -- the outputs where files stay
  outputs-on : b.files ≡ a.files → b.metas ≡ a.metas → AreOutputs b O
  outputs-on q m = record {
    each = λ i y e.
        let o = h.outputs_are.each i y e in
        (o.0, record { captured = ap (λ z. slice_get z.captured o.0) q ∙ o.1.captured; covered = record { at = o.1.covered.at; is = ap (λ l. slice_get l o.1.covered.at) m ∙ o.1.covered.is } });
    once = h.outputs_are.once;
  }

  pub set-stands : (f : ℕ) (o : _) → IsOptionSet a b f o → (old : Option (SvRef Body)) → ((t : Top) → slice_get a.tops f ≡ Some t → IsKept a t.current old)
      → Stands b A O (W ++ pack_of old ∷ [])
  set-stands f o i old kept =
      let u = next_top a i.c.descriptor.version in
      let p = placed-set a.tops f i.is_open.current.top u i.is_open.current.at in
      let y = record i.is_open.family { options = o } in
      let q = placed-set a.families f i.is_open.family y i.is_open.family_at in
      installed a b A A O O W h sound f (live_super (record i.c.descriptor { options = o }) i.place) u
      (ap (λ (z : Books). z.journal) i.is)
      (ap (λ (z : Books). z.supers) i.is)
      (subst (λ l. IsPlaced a.tops l f u) (sym (ap (λ (z : Books). z.tops) i.is)) p)
      refl
      (λ g y d e. sym (q.others g d) ∙ ap (λ (z : Books). slice_get z.families g) (sym i.is) ∙ e)
      (placed-same A f _ (h.actives_are f i.s i.c i.is_open.current))
      (h.many ∙ sym (length-set a.families f y) ∙ ap (λ (z : Books). length z.families) (sym i.is))
      (ap (λ (z : Books). z.files.jobs) i.is ∙ h.jobs)
      (outputs-on (ap (λ (z : Books). z.files) i.is) (ap (λ (z : Books). z.metas) i.is))
      i.is_open.current.top i.is_open.current.at old kept

  pub switched-stands : (f : ℕ) → IsSwitched a b f → (B : List Cell) → B ≡ set A f (record { id = length a.memtables + 1; rows = [] }) → (old : Option (SvRef Body))
      → ((t : Top) → slice_get a.tops f ≡ Some t → IsKept a t.current old) → Stands b B O (W ++ pack_of old ∷ [])
  switched-stands f w B B_is old kept =
      let u = next_top a w.c.descriptor.version in
      let p = placed-set a.tops f w.is_open.current.top u w.is_open.current.at in
      let new : Cell = record { id = length a.memtables + 1; rows = [] } in
      let new_is : new ≡ cell_of a.journal (length a.memtables + 1) = ap (λ l. record { id = length a.memtables + 1; rows = rows_of l }) (sym (fresh-mem a h.sound f w.s w.c w.is_open)) in
      let c = placed-set A f _ new (h.actives_are f w.s w.c w.is_open.current) in
      installed a b A B O O W h sound f _ u
      (ap (λ (z : Books). z.journal) w.is)
      (ap (λ (z : Books). z.supers) w.is)
      (subst (λ l. IsPlaced a.tops l f u) (sym (ap (λ (z : Books). z.tops) w.is)) p)
      refl
      (λ g y d e. ap (λ (z : Books). slice_get z.families g) (sym w.is) ∙ e)
      (subst (λ (z : List Cell × Cell). IsPlaced A z.0 f z.1) (λ i. (sym B_is i, new_is i)) c)
      (ap length B_is ∙ length-set A f new ∙ h.many ∙ ap (λ (z : Books). length z.families) (sym w.is))
      (ap (λ (z : Books). z.files.jobs) w.is ∙ h.jobs)
      (outputs-on (ap (λ (z : Books). z.files) w.is) (ap (λ (z : Books). z.metas) w.is))
      w.is_open.current.top w.is_open.current.at old kept

  pub created-stands : (r : Family) → IsFamilyMade a b r → Stands b (A ++ record { id = length a.memtables + 1; rows = [] } ∷ []) O W
  created-stands r m =
      let u : Top = next_top a (length a.versions + 1) in
      let new : Cell = record { id = length a.memtables + 1; rows = [] } in
      let none = unborne a.journal (length a.memtables + 1) (λ i w e. omega (arith, mem-within (length a.memtables) (length a.families) w (h.sound.steady.borne i w e))) in
      let new_is : new ≡ cell_of a.journal (length a.memtables + 1) = ap (λ l. record { id = length a.memtables + 1; rows = rows_of l }) (sym none) in
      let at : length A ≡ length a.tops = h.many ∙ sym h.sound.lawful.paired in
      made a b A (A ++ new ∷ []) O O W h sound (length a.tops) _ u
      (ap (λ (z : Books). z.journal) m.is)
      (ap (λ (z : Books). z.supers) m.is)
      (subst (λ l. IsPlaced a.tops l (length a.tops) u) (sym (ap (λ (z : Books). z.tops) m.is)) (placed-push a.tops u))
      refl
      (λ g y d e. sym ((placed-push a.families r).others g (λ q. d (q ∙ sym h.sound.lawful.paired))) ∙ ap (λ (z : Books). slice_get z.families g) (sym m.is) ∙ e)
      (subst (λ (z : ℕ × Cell). IsPlaced A (A ++ new ∷ []) z.0 z.1) (λ i. (at i, new_is i)) (placed-push A new))
      (length-append A (new ∷ []) ∙ ap (λ n. n + 1) h.many ∙ sym (length-append a.families (r ∷ [])) ∙ ap (λ (z : Books). length z.families) (sym m.is))
      (ap (λ (z : Books). z.files.jobs) m.is ∙ h.jobs)
      (outputs-on (ap (λ (z : Books). z.files) m.is) (ap (λ (z : Books). z.metas) m.is))

  pub flushed-stands : (f : ℕ) (file : FileMeta) → IsFlushed a b f file → (P : List (Option FileMeta)) → AreOutputs b P → (old : Option (SvRef Body))
      → ((t : Top) → slice_get a.tops f ≡ Some t → IsKept a t.current old) → Stands b A P (W ++ pack_of old ∷ [])
  flushed-stands f file w P outs old kept =
      let u = next_top a (length a.versions + 1) in
      let p = placed-set a.tops f w.is_open.current.top u w.is_open.current.at in
      installed a b A A O P W h sound f _ u
      (ap (λ (z : Books). z.journal) w.is)
      (ap (λ (z : Books). z.supers) w.is)
      (subst (λ l. IsPlaced a.tops l f u) (sym (ap (λ (z : Books). z.tops) w.is)) p)
      refl
      (λ g y d e. ap (λ (z : Books). slice_get z.families g) (sym w.is) ∙ e)
      (placed-same A f _ (h.actives_are f w.s w.c w.is_open.current))
      (h.many ∙ ap (λ (z : Books). length z.families) (sym w.is))
      (ap (λ z. z.jobs) w.settled.rest ∙ h.jobs)
      outs w.is_open.current.top w.is_open.current.at old kept

  pub compacted-stands : (f : ℕ) (file : FileMeta) → IsCompacted a b f file → (P : List (Option FileMeta)) → AreOutputs b P → (old : Option (SvRef Body))
      → ((t : Top) → slice_get a.tops f ≡ Some t → IsKept a t.current old) → Stands b A P (W ++ pack_of old ∷ [])
  compacted-stands f file w P outs old kept =
      let u = next_top a (length a.versions + 1) in
      let p = placed-set a.tops f w.is_open.current.top u w.is_open.current.at in
      installed a b A A O P W h sound f _ u
      (ap (λ (z : Books). z.journal) w.is)
      (ap (λ (z : Books). z.supers) w.is)
      (subst (λ l. IsPlaced a.tops l f u) (sym (ap (λ (z : Books). z.tops) w.is)) p)
      refl
      (λ g y d e. ap (λ (z : Books). slice_get z.families g) (sym w.is) ∙ e)
      (placed-same A f _ (h.actives_are f w.s w.c w.is_open.current))
      (h.many ∙ ap (λ (z : Books). length z.families) (sym w.is))
      (ap (λ z. z.jobs) w.settled.rest ∙ h.jobs)
      outs w.is_open.current.top w.is_open.current.at old kept
