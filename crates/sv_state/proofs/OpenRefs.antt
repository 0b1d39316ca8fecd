-- The objects with which the families of a store that was kept begin, and their references.
use Rattle.std.proofs.Common.{◌≡◌, ◌<◌, ◌*◌, ◌⊎◌, ⊎_elim, Bool, ℕ, zero, suc, ◌+◌, true, List, [], ◌∷◌, ◌++◌, length, Some, arith, refl, sym, ap, ◌∙◌, subst}
use Rattle.std.proofs.lemmas.List.{length_push}
use Rattle.std.specs.Prelude.{slice_get}
use Rattle.sv_model.specs.declared.records.Top.{Top}
use Rattle.sv_model.specs.declared.sv_refs.SvRef.{SvRef}
use Rattle.sv_model.specs.declared.openings.OpenFamily.{OpenFamily}
use Rattle.sv_model.specs.Named.{memtable_live, super_live}
use Rattle.sv_model.specs.Places.{IsLeastFree, StandsAt, cell_of, place_of}
use Rattle.sv_model.specs.Registers.{entry}
use Rattle.sv_model.specs.Steady.{Sound}
use Rattle.sv_model.proofs.Registers.{entry-new, entry-old, get-some}
use Rattle.std.proofs.lemmas.Option.{slice_get_within}
use Rattle.sv_laws.specs.Installs.{live_super}
use Rattle.sv_objects.specs.declared.bodies.Body.{Body}
use Rattle.sv_objects.specs.Openings.{OpenMade}
use Rattle.sv_state.specs.declared.begun.Begun.{Begun}
use Rattle.sv_state.specs.Begun.{IsBegun, IsOpenRef}
use Rattle.sv_state.specs.Openings.{by_id, open_list, open_memtable, open_super, open_top, open_version, opened_books}
use Rattle.sv_state.specs.Refs.{AreFrozenAt, IsKept, IsState}
use Rattle.sv_state.proofs.OpenLists.{at-by_id, by_id-at, by_id-push, get-push, length-by_id}

-- ---- the least free place is the next one
module _ {A : Type 0} (live : A → Bool) (place : A → ℕ) (make : ℕ → OpenFamily → A) (lives : (i : ℕ) (f : OpenFamily) → live (make i f) ≡ true)
    (places : (i : ℕ) (f : OpenFamily) → place (make i f) ≡ i) (l : List OpenFamily) (p : ℕ) (h : IsLeastFree live place (by_id make 0 l) p) where
  not-lower : p < length l → ⊥
  not-lower lt =
      let x = get-some l p lt in
      h.free (suc p, make p x.0, by_id-at make 0 p p l x.0 (omega arith) x.1, record { is_live = lives p x.0; at = places p x.0 })

  none-there : (n : ℕ) (y : A) → entry (by_id make 0 l) n ≡ Some y → StandsAt live place (length l) y → ⊥
  none-there zero y e s = absurd (cc)
  none-there (suc i) y e s =
      let t = at-by_id make 0 i i l y (omega arith) e in
      omega (arith, slice_get_within l i t.0 t.1, ap place t.2, places i t.0, s.at)

  not-higher : length l < p → ⊥
  not-higher lt = let w = h.lower (length l) lt in none-there w.0 w.1 w.2 w.3

  pub next-place : p ≡ length l
  next-place = ⊎_elim (λ lt. absurd (not-lower lt)) (λ rest. ⊎_elim (λ e. e) (λ lt. absurd (not-higher lt)) rest) cases
    where
      cases : (p < length l) ⊎ ((p ≡ length l) ⊎ (length l < p))
      cases = grind arith

-- ---- one family more begins
module _ (kept : List OpenFamily) (f : OpenFamily) (b c : Begun) (r : SvRef Body) (t : Top) (id base : ℕ) (h : IsBegun kept b) (id_is : id ≡ length kept)
    (base_is : base ≡ length f.writes.items) (made : OpenMade b.objects id f.options base f.files.items c.objects r.pack r.body.value)
    (tops : c.tops.items ≡ b.tops.items ++ t ∷ []) (top_is : IsOpenRef (length kept) f r.pack r.body.value → t ≡ open_top (length kept) f) (held : c.held.items ≡ b.held.items ++ Some r ∷ []) where
  super : length b.objects.supers + 1 ≡ suc (length kept)
  super = omega (arith, ap (λ l. length l) h.supers, length-by_id open_super 0 kept)

  memtable : length b.objects.memtables + 1 ≡ suc (length kept)
  memtable = omega (arith, ap (λ l. length l) h.memtables, length-by_id open_memtable 0 kept)

  list : length b.objects.lists + 1 ≡ suc (length kept)
  list = omega (arith, ap (λ l. length l) h.lists, length-by_id open_list 0 kept)

  version : length b.objects.versions + 1 ≡ suc (length kept)
  version = omega (arith, ap (λ l. length l) h.versions, length-by_id open_version 0 kept)

  place : made.place ≡ length kept
  place = next-place super_live place_of open_super (λ i g. refl) (λ i g. refl) kept made.place (subst (λ l. IsLeastFree super_live place_of l made.place) h.supers made.least)

  cell : made.cell ≡ length kept
  cell = next-place memtable_live cell_of open_memtable (λ i g. refl) (λ i g. refl) kept made.cell (subst (λ l. IsLeastFree memtable_live cell_of l made.cell) h.memtables made.cell_least)

  new-ref : IsOpenRef (length kept) f r.pack r.body.value
  new-ref = record {
    pack_is = made.pack_is ∙ (λ i. super i * 256 + place i);
    descriptor_is = made.descriptor_is ∙ (λ i. record { family = id_is i; active = memtable i; list = list i; version = version i; base = base_is i; options = f.options });
    cell_is = made.cell_is ∙ cell;
    frozen_are = made.frozen_are;
    files_are = made.files_are;
  }

  pub begun-next : IsBegun (kept ++ f ∷ []) c
  begun-next = record {
    supers = made.supers
        ∙ (λ i. h.supers i ++ live_super (record { family = id_is i; active = memtable i; list = list i; version = version i; base = base_is i; options = f.options }) (place i) ∷ [])
        ∙ sym (by_id-push open_super kept f);
    memtables = made.memtables ∙ (λ i. h.memtables i ++ record { family = id_is i; first = base_is i; cell = cell i; live = true } ∷ []) ∙ sym (by_id-push open_memtable kept f);
    lists = made.lists ∙ (λ i. h.lists i ++ record { members = []; live = true } ∷ []) ∙ sym (by_id-push open_list kept f);
    versions = made.versions ∙ (λ i. h.versions i ++ record { files = f.files.items; live = true } ∷ []) ∙ sym (by_id-push open_version kept f);
    tops = tops ∙ (λ i. h.tops i ++ top_is new-ref i ∷ []) ∙ sym (by_id-push open_top kept f);
    paired = omega (arith, ap (λ l. length l) held, length_push b.held.items (Some r), length_push kept f, h.paired);
    held = λ i g e. ⊎_elim
        (λ old. let w = h.held i g old in (w.0, ap (λ l. slice_get l i) held ∙ entry-old b.held.items (Some r ∷ []) (suc i) (Some w.0) w.1, w.2))
        (λ new. (
          r,
          ap (λ l. slice_get l i) held ∙ entry-new b.held.items (Some r) (suc i) (omega (arith, new.0, h.paired)),
          subst (λ (z : ℕ × OpenFamily). IsOpenRef z.0 z.1 r.pack r.body.value) (λ j. (sym new.0 j, sym new.1 j)) new-ref,
        ))
        (get-push kept f i g e);
  }

-- ---- the references that are kept
pub open-state : (l : List OpenFamily) (next : ℕ) → Sound (opened_books l next) → (b : Begun) → IsBegun l b → IsState (opened_books l next) b.held.items
open-state l next sound b h = record {
  sound = sound;
  kept = record {
    paired = h.paired ∙ sym (length-by_id open_top 0 l);
    each = λ i t at.
        let p = at-by_id open_top 0 i i l t (omega arith) at in
        let f = p.0 in
        let w = h.held i f p.1 in (
          Some w.0,
          w.1,
          subst (λ (z : Top). IsKept (opened_books l next) z.current (Some w.0)) (sym p.2) (record {
            it = open_super i f;
            at = by_id-at open_super 0 i i l f (omega arith) p.1;
            pack_is = w.2.pack_is;
            body_is = record {
              descriptor_is = w.2.descriptor_is;
              cell = record { it = open_memtable i f; at = by_id-at open_memtable 0 i i l f (omega arith) p.1; is = sym w.2.cell_is };
              list = record { members = []; live = true };
              list_at = by_id-at open_list 0 i i l f (omega arith) p.1;
              frozen = subst (AreFrozenAt (opened_books l next).journal (opened_books l next).memtables []) (sym w.2.frozen_are) tt;
              version = open_version i f;
              version_at = by_id-at open_version 0 i i l f (omega arith) p.1;
              files_are = w.2.files_are;
            };
          }),
        );
  };
}
