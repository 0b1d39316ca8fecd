-- The tests' state stands after each call.
use Rattle.std.proofs.Common.{◌≡◌, ◌≢◌, ◌<◌, ◌≤◌, ◌+◌, ◌*◌, ◌∷◌, ◌++◌, ◌⊎◌, inl, inr, ⊎_elim, ℕ, suc, Bool, true, false, List, [], length, set, Option, Some, None, refl, sym, ap, ◌∙◌, subst, arith}
use Rattle.std.specs.Prelude.{IfOk, OnErr, Ok, Err, Result, slice_get}
use mathlib.Core.Logic.{dite}
use native.Mathlib.Decide.{ℕ_discrete}
use Rattle.sv_model.specs.declared.records.Family.{Family}
use Rattle.sv_model.specs.declared.records.SuperVersion.{SuperVersion}
use Rattle.sv_model.specs.declared.records.Top.{Top}
use Rattle.sv_model.specs.declared.refusals.Refusal.{Refusal}
use Rattle.sv_model.specs.declared.settings.OptionName.{OptionName}
use Rattle.sv_model.specs.declared.sv_refs.SvRef.{SvRef}
use Rattle.sv_model.specs.Books.{Books}
use Rattle.sv_model.specs.Families.{IsOwn, is_retired}
use Rattle.sv_model.specs.Openings.{opening_books}
use Rattle.sv_model.specs.Registers.{entry}
use Rattle.sv_model.specs.Steady.{IsCurrent, Sound}
use Rattle.sv_model.proofs.Registers.{entry_le, entry-old}
use Rattle.sv_laws.specs.Cleaning.{IsCleaned}
use Rattle.sv_laws.specs.Families.{IsDropped, IsOpened}
use Rattle.sv_laws.specs.Growing.{IsPlaced}
use Rattle.sv_laws.specs.Installs.{IsOpen, live_super, next_top}
use Rattle.sv_laws.specs.NewCurrents.{IsFamilyMade, IsOptionSet}
use Rattle.sv_laws.proofs.GrownRegisters.{placed-push, placed-set}
use Rattle.sv_model.proofs.Entries.{get_one, some}
use Rattle.sv_laws.proofs.Handles.{not-retired, not-retired-open}
use Rattle.sv_laws.proofs.OpenFamilies.{current-top}
use Rattle.sv_laws.proofs.Opened.{first-sound}
use Rattle.sv_objects.specs.declared.bodies.Body.{Body}
use Rattle.sv_state.specs.Changing.{IsSet}
use Rattle.sv_state.specs.Currents.{HasCurrentAt, OwnHaveCurrents}
use Rattle.sv_state.specs.Follows.{Follows}
use Rattle.sv_state.specs.Gone.{IsFree}
use Rattle.sv_state.specs.Refs.{IsKept, IsRefOf}
use Rattle.sv_state.specs.Seen.{StateSeen}
use Rattle.sv_state_tests.specs.Standing.{HaveCurrents, MayGo, Stands, WaitsFor}

-- ---- beginnings

pub opening : (next : ℕ) → 1 ≤ next → next ≤ 18446744073709551615 → Stands (opening_books next) None
opening next low high = record {
  sound = first-sound next low high;
  currents = λ f x at stands.
      let h = get_one _ f x at in
      record { top = record { current = Some 1; last = 1 }; at = ap (λ n. slice_get (opening_books next).tops n) h.0; serial = 1; is = refl };
  waits = tt;
}

pub own-currents : (b : Books) (w : Option ℕ) → Stands b w → (lane : ℕ) (name : List ℕ) → OwnHaveCurrents b lane name
own-currents b w h lane name f x at own = h.currents f x at (not-retired x lane own.handle)

-- ---- what stays

-- what waits may go as long as its record stands and no family takes it as its current
free-kept : (a b : Books) (pack : ℕ) → IsFree a pack
    → ((n : ℕ) (x : SuperVersion) → entry a.supers n ≡ Some x → entry b.supers n ≡ Some x)
    → ((f s : ℕ) (t : Top) (x : SuperVersion) → slice_get b.tops f ≡ Some t → t.current ≡ Some s → entry a.supers s ≡ Some x
    → (u : Top) × (slice_get a.tops f ≡ Some u) × (u.current ≡ Some s))
    → IsFree b pack
free-kept a b pack h on back = record {
  serial = h.serial;
  it = h.it;
  at = on h.serial h.it h.at;
  live = h.live;
  pack_is = h.pack_is;
  free = λ f t at is. let u = back f h.serial t h.it at is h.at in h.free f u.0 u.1 u.2;
}

go-kept : (a b : Books) (w : Option ℕ) → ((pack : ℕ) → IsFree a pack → IsFree b pack) → MayGo a w → MayGo b w
go-kept a b None on h = tt
go-kept a b (Some pack) on h = on pack h

-- the same SuperVersions, families and currents
pub same : (a b : Books) (w : Option ℕ) → Stands a w → Sound b → b.supers ≡ a.supers → b.families ≡ a.families → b.tops ≡ a.tops → Stands b w
same a b w h sound supers families tops = record {
  sound = sound;
  currents = λ f x at stands.
      let c = h.currents f x (ap (λ l. slice_get l f) (sym families) ∙ at) stands in
      record { top = c.top; at = ap (λ l. slice_get l f) tops ∙ c.at; serial = c.serial; is = c.is };
  waits = go-kept a b w
      (λ pack free. free-kept a b pack free (λ n x e. ap (λ l. entry l n) supers ∙ e) (λ f s t x at is e. (t, ap (λ l. slice_get l f) (sym tops) ∙ at, is)))
      h.waits;
}

-- a family that is not retired changes, and its current stands
pub one-family : (a b : Books) (w : Option ℕ) (f : ℕ) (it y : Family) → Stands a w → Sound b → slice_get a.families f ≡ Some it → is_retired it ≡ false
    → b ≡ record a { families = set a.families f y } → Stands b w
one-family a b w f it y h sound at open_ is = record {
  sound = sound;
  currents = λ g x e stands.
      let c : HasCurrentAt a g = dite (ℕ_discrete g f)
      (λ q. subst (HasCurrentAt a) (sym q) (h.currents f it at open_))
      (λ q. h.currents g x (sym ((placed-set a.families f it y at).others g q) ∙ ap (λ (z : Books). slice_get z.families g) (sym is) ∙ e) stands) in
      record { top = c.top; at = ap (λ (z : Books). slice_get z.tops g) is ∙ c.at; serial = c.serial; is = c.is };
  waits = go-kept a b w
      (λ pack free. free-kept a b pack free (λ n x e. ap (λ (z : Books). entry z.supers n) is ∙ e) (λ g s t x e c q. (t, ap (λ (z : Books). slice_get z.tops g) (sym is) ∙ e, c)))
      h.waits;
}

-- ---- a SuperVersion more

module _ (a b : Books) (w : Option ℕ) (h : Stands a w) (sound : Sound b) (f : ℕ) (x : SuperVersion) (u : Top)
    (supers : b.supers ≡ a.supers ++ x ∷ []) (tops : IsPlaced a.tops b.tops f u) (is : u.current ≡ Some (length a.supers + 1))
    (families : (g : ℕ) (y : Family) → g ≢ f → slice_get b.families g ≡ Some y → slice_get a.families g ≡ Some y) where
  on : (n : ℕ) (y : SuperVersion) → entry a.supers n ≡ Some y → entry b.supers n ≡ Some y
  on n y e = ap (λ l. entry l n) supers ∙ entry-old a.supers (x ∷ []) n y e

  -- a SuperVersion that was there before is no new current
  back : (g s : ℕ) (t : Top) (y : SuperVersion) → slice_get b.tops g ≡ Some t → t.current ≡ Some s → entry a.supers s ≡ Some y
      → (g ≢ f) × ((v : Top) × (slice_get a.tops g ≡ Some v) × (v.current ≡ Some s))
  back g s t y at cur e = dite (ℕ_discrete g f)
      (λ q.
      let t_is : u ≡ t = some (sym tops.here ∙ ap (slice_get b.tops) (sym q) ∙ at) in
      let s_is : length a.supers + 1 ≡ s = some (sym is ∙ ap (λ (z : Top). z.current) t_is ∙ cur) in
      absurd (omega (arith, s_is, (entry_le a.supers s y e).1)))
      (λ q. (q, (t, sym (tops.others g q) ∙ at, cur)))

  now-currents : HaveCurrents b
  now-currents g y e stands = dite (ℕ_discrete g f)
      (λ q. record { top = u; at = ap (slice_get b.tops) q ∙ tops.here; serial = length a.supers + 1; is = is })
      (λ q.
      let c = h.currents g y (families g y q e) stands in
      record { top = c.top; at = tops.others g q ∙ c.at; serial = c.serial; is = c.is })

  waits-on : MayGo b w
  waits-on = go-kept a b w (λ pack free. free-kept a b pack free on (λ g s t y at cur e. (back g s t y at cur e).1)) h.waits

  -- of a family that is made
  pub made : Stands b w
  made = record { sound = sound; currents = now-currents; waits = waits-on }

  -- the current before may go
  old-free : (s : ℕ) (c : SuperVersion) → IsOpen a f s c → (pack : ℕ) (body : Body) → IsRefOf a s pack body → IsFree b pack
  old-free s c o pack body r =
      let top = current-top a h.sound.lawful f s o.current.top o.current.at o.current.is in
      let t = top.2 in
      let it_is : t.it ≡ r.it = some (sym t.at ∙ r.at) in
      record {
        serial = s;
        it = r.it;
        at = on s r.it r.at;
        live = subst (λ (z : SuperVersion). z.live ≡ true) it_is t.live;
        pack_is = r.pack_is;
        free = λ g v at cur.
            let p = back g s v r.it at cur r.at in
            let other = current-top a h.sound.lawful g s p.1.0 p.1.1 p.1.2 in
            let same_it : other.2.it ≡ t.it = some (sym other.2.at ∙ t.at) in
            p.0 (sym other.2.family_is ∙ ap (λ (z : SuperVersion). z.descriptor.family) same_it ∙ t.family_is);
      }

  kept-free : (s : ℕ) (c : SuperVersion) → IsOpen a f s c → (cur : Option ℕ) → cur ≡ Some s → (old : Option (SvRef Body)) → IsKept a cur old → (r : SvRef Body) → old ≡ Some r → IsFree b r.pack
  kept-free s c o None q old k r e = absurd (cc)
  kept-free s c o (Some n) q None k r e = absurd k
  kept-free s c o (Some n) q (Some z) k r e = old-free s c o r.pack r.body.value
      (subst (λ (z : SvRef Body × ℕ). IsRefOf a z.1 z.0.pack z.0.body.value) (λ i. (some e i, some q i)) k)

  pub installed : (s : ℕ) (c : SuperVersion) → IsOpen a f s c → (old : Option (SvRef Body)) → ((t : Top) → slice_get a.tops f ≡ Some t → IsKept a t.current old)
      → (v : Option ℕ) → WaitsFor w old v → Stands b v
  installed s c o old kept v waits = record {
    sound = sound;
    currents = now-currents;
    waits = ⊎_elim
        (λ q. subst (MayGo b) (sym q) waits-on)
        (λ q. subst (MayGo b) (sym q.2) (kept-free s c o o.current.top.current o.current.is old (kept o.current.top o.current.at) q.0 q.1))
        waits;
  }

-- ---- the calls

pub set-stands : (a b : Books) (w v : Option ℕ) → Stands a w → Sound b → (lane : ℕ) (name : List ℕ) (option : OptionName) (value f : ℕ) → IsSet a b lane name option value f
    → (old : Option (SvRef Body)) → ((t : Top) → slice_get a.tops f ≡ Some t → IsKept a t.current old) → WaitsFor w old v → Stands b v
set-stands a b w v h sound lane name option value f i old kept waits =
    let o = i.set in
    let p = placed-set a.tops f o.is_open.current.top (next_top a o.c.descriptor.version) o.is_open.current.at in
    let q = placed-set a.families f o.is_open.family (record o.is_open.family { options = _ }) o.is_open.family_at in
    installed a b w h sound f (live_super (record o.c.descriptor { options = _ }) o.place) (next_top a o.c.descriptor.version)
    (ap (λ (z : Books). z.supers) o.is)
    (subst (λ l. IsPlaced a.tops l f (next_top a o.c.descriptor.version)) (sym (ap (λ (z : Books). z.tops) o.is)) p)
    refl
    (λ g y d e. sym (q.others g d) ∙ ap (λ (z : Books). slice_get z.families g) (sym o.is) ∙ e)
    o.s o.c o.is_open old kept v waits

pub created-stands : (a b : Books) (w : Option ℕ) → Stands a w → Sound b → (r : Family) → IsFamilyMade a b r → Stands b w
created-stands a b w h sound r m =
    let u : Top = next_top a (length a.versions + 1) in
    made a b w h sound (length a.tops) _ u
    (ap (λ (z : Books). z.supers) m.is)
    (subst (λ l. IsPlaced a.tops l (length a.tops) u) (sym (ap (λ (z : Books). z.tops) m.is)) (placed-push a.tops u))
    refl
    (λ g y d e. sym ((placed-push a.families r).others g (λ q. d (q ∙ sym h.sound.lawful.paired))) ∙ ap (λ (z : Books). slice_get z.families g) (sym m.is) ∙ e)

pub opened-stands : (a b : StateSeen) (w : Option ℕ) → Stands a.books w → Sound b.books → (lane : ℕ) (r : Result ℕ Refusal)
    → IfOk r (λ id. IsOpened a.books b.books id lane) → OnErr r (b ≡ a) → Stands b.books w
opened-stands a b w h sound lane (Ok f) o k = one-family a.books b.books w f o.it _ h sound o.at (not-retired-open o.it o.stands) o.is
opened-stands a b w h sound lane (Err e) o k = subst (λ (z : StateSeen). Stands z.books w) (sym k) h

pub dropped-stands : (a b : StateSeen) (w : Option ℕ) → Stands a.books w → Sound b.books → (lane : ℕ) (r : Result ℕ Refusal)
    → IfOk r (λ id. IsDropped a.books b.books id lane) → OnErr r (b ≡ a) → Stands b.books w
dropped-stands a b w h sound lane (Ok f) o k = one-family a.books b.books w f o.it _ h sound o.at (not-retired o.it lane o.handle) o.is
dropped-stands a b w h sound lane (Err e) o k = subst (λ (z : StateSeen). Stands z.books w) (sym k) h

pub cleaned-stands : (a b : Books) (w : Option ℕ) → Stands a w → Sound b → (s : ℕ) (x : SuperVersion) → IsCleaned a b s x → Stands b None
cleaned-stands a b w h sound s x g = record {
  sound = sound;
  currents = λ f y at stands.
      let c = h.currents f y (ap (λ (z : Books). slice_get z.families f) (sym g.is) ∙ at) stands in
      record { top = c.top; at = ap (λ (z : Books). slice_get z.tops f) g.is ∙ c.at; serial = c.serial; is = c.is };
  waits = tt;
}
