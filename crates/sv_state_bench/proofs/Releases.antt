-- The tests' state stands when a lane's handle is taken back.
use Rattle.std.proofs.Common.{◌≡◌, ◌≢◌, ◌++◌, ◌∷◌, ⊎_elim, ℕ, true, false, List, [], set, Option, Some, None, refl, sym, ap, ◌∙◌, subst, length-set}
use Rattle.std.specs.Prelude.{slice_get}
use Rattle.sv_model.specs.declared.records.FileMeta.{FileMeta}
use Rattle.sv_model.specs.declared.records.Top.{Top}
use Rattle.sv_model.specs.declared.sv_refs.SvRef.{SvRef}
use Rattle.sv_model.specs.Books.{Books}
use Rattle.sv_model.specs.Cells.{Cell}
use Rattle.sv_model.specs.Families.{is_retired}
use Rattle.sv_model.specs.Steady.{Sound}
use Rattle.sv_laws.specs.Families.{IsRetired, released}
use Rattle.sv_laws.specs.Growing.{IsPlaced}
use Rattle.sv_laws.proofs.GrownRegisters.{placed-set, placed_get}
use Rattle.sv_laws.proofs.Handles.{not-retired}
use Rattle.sv_objects.specs.declared.bodies.Body.{Body}
use Rattle.sv_state.specs.Gone.{IsReleasedAs}
use Rattle.sv_state.specs.Refs.{IsKept}
use Rattle.sv_state_bench.specs.Standing.{AreWaiting, Stands}
use Rattle.sv_state_bench.proofs.CurrentRefs.{only, top-live}
use Rattle.sv_state_bench.proofs.Installs.{none-waits, not-waiting, one-waits, pack_of}
use Rattle.sv_state_bench.proofs.Standings.{one-family}

pub released-stands : (a b : Books) (A : List Cell) (O : List (Option FileMeta)) (W : List (Option ℕ)) → Stands a A O W → Sound b → (lane : ℕ) (name : List ℕ)
    → IsReleasedAs a b lane name None → Stands b A O W
released-stands a b A O W h sound lane name r =
    let w = r.4 in
    one-family a b A O W r.0 w.it _ h sound w.at (not-retired w.it lane w.handle) w.is

-- a family is retired by it, and its current waits
module _ (a b : Books) (A : List Cell) (O : List (Option FileMeta)) (W : List (Option ℕ)) (h : Stands a A O W) (sound : Sound b) (f lane : ℕ) (w : IsRetired a b f lane) where
  abbrev pub ended : Books
  ended = record a { families = set a.families f (released w.it lane); tops = set a.tops f (record w.top { current = None }) }

  fp : IsPlaced a.families (set a.families f (released w.it lane)) f (released w.it lane)
  fp = placed-set a.families f w.it (released w.it lane) w.at

  tp : IsPlaced a.tops (set a.tops f (record w.top { current = None })) f (record w.top { current = None })
  tp = placed-set a.tops f w.top (record w.top { current = None }) w.on

  -- a current is that of another family
  end-still : (g s : ℕ) (t : Top) → slice_get ended.tops g ≡ Some t → t.current ≡ Some s → (g ≢ f) × (slice_get a.tops g ≡ Some t)
  end-still g s t at is = ⊎_elim
      (λ q. let z : None ≡ Some s = ap (λ (v : Top). v.current) (sym q.1) ∙ is in absurd (cc))
      (λ q. q)
      (placed_get a.tops ended.tops f (record w.top { current = None }) tp g t at)

  end-on : (W : List (Option ℕ)) → AreWaiting a W → AreWaiting ended W
  end-on V v = record {
    free = λ i p e.
        let x = v.free i p e in
        record { serial = x.serial; it = x.it; at = x.at; live = x.live; pack_is = x.pack_is; free = λ g t at is. x.free g t (end-still g x.serial t at is).1 is };
    once = v.once;
  }

  end-waits : (cur : Option ℕ) → w.top.current ≡ cur → (old : Option (SvRef Body)) → IsKept a cur old → AreWaiting ended (W ++ pack_of old ∷ [])
  end-waits None q None k = none-waits ended W (end-on W h.waiting_are)
  end-waits None q (Some r) k = absurd k
  end-waits (Some s) q None k = absurd k
  end-waits (Some s) q (Some r) k =
      one-waits ended W r.pack (end-on W h.waiting_are)
      (record {
        serial = s;
        it = k.it;
        at = k.at;
        live = top-live a h.sound f s w.top w.on q r.pack r.body.value k;
        pack_is = k.pack_is;
        free = λ g v e cur.
            let p = end-still g s v e cur in
            p.0 (only a h.sound f s w.top w.on q r.pack r.body.value k g v p.1 cur);
      })
      (not-waiting a h.sound W h.waiting_are f s w.top w.on q r.pack r.body.value k)

  pub retired-stands : (old : Option (SvRef Body)) → ((t : Top) → slice_get a.tops f ≡ Some t → IsKept a t.current old) → Stands b A O (W ++ pack_of old ∷ [])
  retired-stands old kept = subst (λ (z : Books). Stands z A O (W ++ pack_of old ∷ [])) (sym w.is) (record {
    sound = subst Sound w.is sound;
    currents = λ g x e stands. ⊎_elim
        (λ q. let z : false ≡ true = sym stands ∙ ap is_retired q.1 ∙ w.retired in absurd (cc))
        (λ q.
        let c = h.currents g x q.1 stands in
        record { top = c.top; at = tp.others g q.0 ∙ c.at; serial = c.serial; is = c.is })
        (placed_get a.families ended.families f (released w.it lane) fp g x e);
    jobs = h.jobs;
    actives_are = λ g s x c. h.actives_are g s x (record { top = c.top; at = (end-still g s c.top c.at c.is).1; is = c.is; has = c.has });
    many = h.many ∙ sym (length-set a.families f (released w.it lane));
    outputs_are = record { each = λ i x e. let o = h.outputs_are.each i x e in (o.0, record { captured = o.1.captured; covered = o.1.covered }); once = h.outputs_are.once };
    waiting_are = end-waits w.top.current refl old (kept w.top w.on);
  })
