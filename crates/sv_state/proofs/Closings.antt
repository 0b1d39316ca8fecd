-- A family without a current, and a SuperVersion that goes.
use Rattle.std.proofs.Common.{◌≡◌, ◌≢◌, ◌<◌, ◌+◌, ◌*◌, ℕ, suc, Bool, true, false, List, length, length-set, set, Option, Some, None, refl, sym, ap, ◌∙◌, subst, arith}
use Rattle.std.specs.Prelude.{IsTrue, is_some, option_map, slice_get, ◌↔◌}
use mathlib.Core.Logic.{dite}
use native.Mathlib.Decide.{ℕ_discrete}
use Rattle.sv_model.specs.declared.records.Descriptor.{Descriptor}
use Rattle.sv_model.specs.declared.records.Family.{Family}
use Rattle.sv_model.specs.declared.records.SuperVersion.{SuperVersion}
use Rattle.sv_model.specs.declared.records.Top.{Top}
use Rattle.sv_model.specs.declared.sv_refs.SvRef.{SvRef}
use Rattle.sv_model.specs.After.{After}
use Rattle.sv_model.specs.Books.{Books}
use Rattle.sv_model.specs.Families.{IsOwn, is_retired}
use Rattle.sv_model.specs.Registers.{entry}
use Rattle.sv_model.specs.Steady.{Sound}
use Rattle.sv_model.proofs.Registers.{entry-else, entry-same}
use Rattle.sv_family.specs.Calls.{IsChanged, IsGivenUp, with_handle, without_handles}
use Rattle.sv_laws.specs.Changes.{current_ended, forgotten, released, retired}
use Rattle.sv_laws.specs.Families.{IsCurrentEnded, IsForgotten, IsReleased, IsRetired}
use Rattle.sv_laws.proofs.GrownRegisters.{get_within}
use Rattle.sv_model.proofs.Entries.{some}
use Rattle.sv_laws.proofs.Kept.{sound-kept}
use Rattle.sv_objects.specs.declared.bodies.Body.{Body}
use Rattle.sv_objects.specs.declared.objects.Objects.{Objects}
use Rattle.sv_objects.specs.Cleanups.{CanClean, with_objects}
use Rattle.sv_state.specs.Currents.{CanEnd, HasCurrentAt}
use Rattle.sv_state.specs.declared.installs.Install.{Install}
use Rattle.sv_state.specs.Gone.{IsFree, IsLastOr, TellsEnd}
use Rattle.sv_state.specs.Refs.{AreKept, IsKept, IsState}
use Rattle.sv_state.proofs.References.{old-ref}
use Rattle.sv_state.proofs.Stays.{kept-stays}

-- a call that changes what one family has on top
pub sets-state : (a b : Books) (held : List (Option (SvRef Body))) → IsState a held → Sound b × After a b → (f : ℕ) (t u : Top) (r : Option (SvRef Body))
    → slice_get a.tops f ≡ Some t → b.tops ≡ set a.tops f u → IsKept b u.current r → IsState b (set held f r)
sets-state a b held h law f t u r at is kept = record {
  sound = law.0;
  kept = record {
    paired = length-set held f r ∙ h.kept.paired ∙ sym (ap (λ (l : List Top). length l) is ∙ length-set a.tops f u);
    each = λ g w e. dite (ℕ_discrete g f)
        (λ q.
        let o = h.kept.each f t at in
        let u_is : u ≡ w = some (sym (entry-same a.tops (suc f) t u at) ∙ ap (λ l. slice_get l f) (sym is) ∙ ap (slice_get b.tops) (sym q) ∙ e) in
        (r, ap (slice_get (set held f r)) q ∙ entry-same held (suc f) o.0 r o.1, subst (λ (z : Top). IsKept b z.current r) u_is kept))
        (λ q.
        let apart : suc g ≢ suc f = λ p. q (omega (arith, p)) in
        let o = h.kept.each g w (sym (entry-else a.tops (suc f) (suc g) u apart) ∙ ap (λ l. slice_get l g) (sym is) ∙ e) in
        (o.0, entry-else held (suc f) (suc g) r apart ∙ o.1, kept-stays a b law.1 w.current o.0 o.2));
  };
}

pub end-changes : (a : Books) (k : Sound a) (f : ℕ) (can : CanEnd a f) (T : List Top) → T ≡ set a.tops f (record can.current.top { current = None })
    → IsCurrentEnded a (record a { tops = T }) f
end-changes a k f can T e = record {
  it = can.it;
  at = can.at;
  stands = can.stands;
  top = can.current.top;
  on = can.current.at;
  is = ap (λ (l : List Top). record a { tops = l }) e;
}

pub end-law : (a b : Books) (k : Sound a) (f : ℕ) → IsCurrentEnded a b f → Sound b × After a b
end-law a b k f h = sound-kept a b k (current_ended f h)

-- the install of a family that has none any more
pub ended-tells : (a : Books) (held : List (Option (SvRef Body))) → AreKept a held → (f : ℕ) (r : Option (SvRef Body)) → slice_get held f ≡ Some r
    → (install : Install) → install.family ≡ f → install.old ≡ r → install.vacant ≡ None → TellsEnd a install
ended-tells a held kept f r e install family old vacant = record {
  old = λ t at. subst (IsKept a t.current) (sym old) (old-ref a held kept f r e t (ap (slice_get a.tops) (sym family) ∙ at));
  vacant = vacant;
}

-- ---- a current that is asked for

pub has-current : (b : Books) (f : ℕ) (x : Top) (r : Bool) → slice_get b.tops f ≡ Some x → r ≡ is_some x.current → IsTrue r ↔ HasCurrentAt b f
has-current b f x r at e = (λ h. by x.current refl (sym e ∙ h), λ h. e ∙ ap is_some (ap (λ (z : Top). z.current) (some (sym at ∙ h.at)) ∙ h.is))
  where
    by : (o : Option ℕ) → x.current ≡ o → is_some x.current ≡ true → HasCurrentAt b f
    by (Some s) q h = record { top = x; at = at; serial = s; is = q }
    by None q h = absurd (let n : false ≡ true = ap is_some (sym q) ∙ h in cc)

-- ---- last Versions

pub retired-read : (families : List Family) (f : ℕ) (r : Bool) → option_map (λ x. is_retired x) (slice_get families f) ≡ Some r
    → (x : Family) × (slice_get families f ≡ Some x) × (is_retired x ≡ r)
retired-read families f r e = by (slice_get families f) refl e
  where
    by : (o : Option Family) → slice_get families f ≡ o → option_map (λ x. is_retired x) o ≡ Some r → (x : Family) × (slice_get families f ≡ Some x) × (is_retired x ≡ r)
    by (Some x) q h = (x, q, some h)
    by None q h = absurd (cc)

module _ (rest : Books) (o : Objects) (k : Sound (with_objects rest o)) (pack : ℕ) (free : IsFree (with_objects rest o) pack) (serial place : ℕ) (d : Descriptor) (said : Bool) (e : serial * 256 + place ≡ pack) (within : place < 256) (read : Some d ≡ option_map (λ (s : SuperVersion). s.descriptor) (entry o.supers serial)) (last : IsLastOr d.version rest.families rest.tops said) where
  same : serial ≡ free.serial
  same = omega (arith, e, within, free.pack_is, (k.lawful.places free.serial free.it free.at free.live).0)

  it_is : d ≡ free.it.descriptor
  it_is = some (read ∙ ap (λ n. option_map (λ (s : SuperVersion). s.descriptor) (entry o.supers n)) same ∙ ap (option_map (λ (s : SuperVersion). s.descriptor)) free.at)

  pub last-or : IsLastOr free.it.descriptor.version rest.families rest.tops said
  last-or = subst (λ (z : Descriptor). IsLastOr z.version rest.families rest.tops said) it_is last

  abbrev pub can-clean : CanClean o pack said
  can-clean = record {
    rest = rest;
    sound = k;
    serial = free.serial;
    it = free.it;
    at = free.at;
    live = free.live;
    pack_is = free.pack_is;
    free = free.free;
    stays = λ q. subst (IsLastOr free.it.descriptor.version rest.families rest.tops) q last-or;
    goes = λ q. subst (IsLastOr free.it.descriptor.version rest.families rest.tops) q last-or;
  }

-- ---- handles that are given back

module _ (a : Books) (k : Sound a) (lane : ℕ) (name : List ℕ) (f : ℕ) (new : List Family) (h : IsChanged (IsOwn lane name) (with_handle lane false) a.families f new) where
  here : slice_get new f ≡ Some (with_handle lane false h.it)
  here = ap (λ l. slice_get l f) h.changed ∙ entry-same a.families (suc f) h.it (with_handle lane false h.it) h.at

  pub made-before : f < length new
  made-before = get_within new f (with_handle lane false h.it) here

  pub made-top : f < length a.tops
  made-top = omega (arith, get_within a.families f h.it h.at, k.lawful.paired)

  retired-now : (r : Bool) → option_map (λ x. is_retired x) (slice_get new f) ≡ Some r → is_retired (with_handle lane false h.it) ≡ r
  retired-now r e =
      let o = retired-read new f r e in ap (λ (z : Family). is_retired z) (some (sym here ∙ o.1)) ∙ o.2

  pub is-released : option_map (λ x. is_retired x) (slice_get new f) ≡ Some false → IsReleased a (record a { families = new }) f lane
  is-released e = record {
    it = h.it;
    at = h.at;
    handle = h.was.handle;
    kept = retired-now false e;
    is = ap (λ (l : List Family). record a { families = l }) h.changed;
  }

  pub is-retired : option_map (λ x. is_retired x) (slice_get new f) ≡ Some true → (cur : HasCurrentAt a f) (T : List Top)
      → T ≡ set a.tops f (record cur.top { current = None }) → IsRetired a (record a { families = new; tops = T }) f lane
  is-retired e cur T q = record {
    it = h.it;
    at = h.at;
    handle = h.was.handle;
    retired = retired-now true e;
    top = cur.top;
    on = cur.at;
    s = cur.serial;
    current = cur.is;
    is = λ i. record a { families = h.changed i; tops = q i };
  }

pub release-law : (a b : Books) (k : Sound a) (f lane : ℕ) → IsReleased a b f lane → Sound b × After a b
release-law a b k f lane h = sound-kept a b k (released f lane h)

pub retire-law : (a b : Books) (k : Sound a) (f lane : ℕ) → IsRetired a b f lane → Sound b × After a b
retire-law a b k f lane h = sound-kept a b k (retired f lane h)

-- ---- a dropped family, at the close

pub forget-changes : (a : Books) (f : ℕ) (cur : HasCurrentAt a f) (new : List Family) → IsChanged IsGivenUp without_handles a.families f new
    → (T : List Top) → T ≡ set a.tops f (record cur.top { current = None }) → IsForgotten a (record a { families = new; tops = T }) f
forget-changes a f cur new h T e = record {
  it = h.it;
  at = h.at;
  gone = h.was;
  top = cur.top;
  on = cur.at;
  s = cur.serial;
  current = cur.is;
  is = λ i. record a { families = h.changed i; tops = e i };
}

pub forget-law : (a b : Books) (k : Sound a) (f : ℕ) → IsForgotten a b f → Sound b × After a b
forget-law a b k f h = sound-kept a b k (forgotten f h)
