-- The reference of a family's current.
use Rattle.std.proofs.Common.{◌≡◌, ⊎_elim, ℕ, true, Option, Some, None, refl, sym, ap, ◌∙◌, subst}
use Rattle.std.specs.Option.{option_map}
use Rattle.std.specs.Prelude.{slice_get}
use Rattle.sv_model.specs.declared.records.SuperVersion.{SuperVersion}
use Rattle.sv_model.specs.declared.records.Top.{Top}
use Rattle.sv_model.specs.declared.sv_refs.SvRef.{SvRef}
use Rattle.sv_model.specs.Books.{Books}
use Rattle.sv_model.specs.Steady.{Sound}
use Rattle.sv_model.proofs.Entries.{some}
use Rattle.sv_laws.specs.Families.{IsCurrentEnded}
use Rattle.sv_laws.proofs.GrownRegisters.{placed-set, placed_get}
use Rattle.sv_laws.proofs.OpenFamilies.{current-top}
use Rattle.sv_objects.specs.declared.bodies.Body.{Body}
use Rattle.sv_state.specs.Gone.{IsFree}
use Rattle.sv_state.specs.Refs.{IsKept, IsRefOf}

module _ (a : Books) (k : Sound a) (f s : ℕ) (t : Top) (at : slice_get a.tops f ≡ Some t) (is : t.current ≡ Some s) (pack : ℕ) (body : Body) (r : IsRefOf a s pack body) where
  pub top-live : r.it.live ≡ true
  top-live =
      let c = current-top a k.lawful f s t at is in
      subst (λ (z : SuperVersion). z.live ≡ true) (some (sym c.2.at ∙ r.at)) c.2.live

  -- it is current of this family alone
  pub only : (g : ℕ) (v : Top) → slice_get a.tops g ≡ Some v → v.current ≡ Some s → g ≡ f
  only g v e c =
      let p = current-top a k.lawful f s t at is in
      let q = current-top a k.lawful g s v e c in
      let same : q.2.it ≡ p.2.it = some (sym q.2.at ∙ p.2.at) in
      sym q.2.family_is ∙ ap (λ (z : SuperVersion). z.descriptor.family) same ∙ p.2.family_is

-- a current that was ended may be cleaned up
pub ended-free : (a b : Books) → Sound a → (f : ℕ) → IsCurrentEnded a b f → (old : Option (SvRef Body)) (pack : ℕ) → option_map (λ r. r.pack) old ≡ Some pack
    → ((t : Top) → slice_get a.tops f ≡ Some t → IsKept a t.current old) → IsFree b pack
ended-free a b k f e None pack is tells = absurd (cc)
ended-free a b k f e (Some r) pack is tells = subst (IsFree b) (some is) (by e.top.current refl (tells e.top e.on))
  where
    by : (cur : Option ℕ) → e.top.current ≡ cur → IsKept a cur (Some r) → IsFree b r.pack
    by None q h = absurd h
    by (Some s) q h = subst (λ (z : Books). IsFree z r.pack) (sym e.is) (record {
      serial = s;
      it = h.it;
      at = h.at;
      live = top-live a k f s e.top e.on q r.pack r.body.value h;
      pack_is = h.pack_is;
      free = λ g v at cur. ⊎_elim
          (λ w. let z : None ≡ Some s = ap (λ (x : Top). x.current) (sym w.1) ∙ cur in absurd (cc))
          (λ w. w.0 (only a k f s e.top e.on q r.pack r.body.value h g v w.1 cur))
          (placed_get a.tops _ f (record e.top { current = None }) (placed-set a.tops f e.top (record e.top { current = None }) e.on) g v at);
    })
