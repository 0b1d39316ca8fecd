-- The reference of a current, as the table's rule knows it.
use Rattle.std.proofs.Common.{List, None, Option, Some, [], ap, arith, inl, inr, map, refl, slice_get, subst, suc, sym, true, zero, ℕ, ⊎_elim, ◌<◌, ◌∙◌, ◌∷◌, ◌≡◌, ◌≤◌}
use Rattle.sv_borrows.specs.Desks.{IsAtDesk}
use Rattle.sv_borrows.specs.Grown.{Cleans}
use Rattle.sv_borrows.specs.Parts.{body_of, frozen_at}
use Rattle.sv_laws.proofs.OpenFamilies.{current-top}
use Rattle.sv_model.specs.Books.{Books}
use Rattle.sv_model.specs.Cells.{Cell}
use Rattle.sv_model.specs.Lawful.{Lawful}
use Rattle.sv_model.specs.Lists.{Every}
use Rattle.sv_model.specs.Registers.{entry}
use Rattle.sv_model.specs.Supers.{current_of, current_serial, pack_at, pack_of_serial}
use Rattle.sv_model.specs.declared.records.Memtable.{Memtable}
use Rattle.sv_model.specs.declared.records.SuperVersion.{SuperVersion}
use Rattle.sv_model.specs.declared.records.Top.{Top}
use Rattle.sv_model.proofs.Entries.{some}
use Rattle.sv_model.proofs.Registers.{entry_le}
use Rattle.sv_objects.specs.declared.bodies.Body.{Body}
use Rattle.sv_objects.specs.Shown.{shown}
use Rattle.sv_rule.proofs.FittingBodies.{live-fits}
use Rattle.sv_rule.specs.Fits.{BodyFits, IsFrozenAt, cell_of}
use Rattle.sv_rule.specs.ReferencePlays.{CanAdd}
use Rattle.sv_rule.specs.SlotPlays.{IsShown}
use Rattle.sv_rule.specs.Views.{Bodied, LaneView, Locks, idle}
use Rattle.sv_slots.specs.Seats.{HasDesk}
use Rattle.sv_state.specs.Currents.{HasCurrentAt}
use Rattle.sv_state.specs.Refs.{AreFrozenAt, IsRefOf}

-- ---- a reference of a Live SuperVersion

module _ (b : Books) where
  members-are : (ms : List ℕ) (xs : List (ℕ × Cell)) → AreFrozenAt b.journal b.memtables ms xs
      → ms ≡ map (λ k. k.frozen.id) (map frozen_at xs)
  members-are [] [] h = refl
  members-are [] (x ∷ xs) h = absurd h
  members-are (m ∷ ms) [] h = absurd h
  members-are (m ∷ ms) (x ∷ xs) h = let id = ap (λ (z : Cell). z.id) h.0.rows in
      (λ i. sym id i ∷ members-are ms xs h.1 i)

  frozen-are : (ms : List ℕ) (xs : List (ℕ × Cell)) → AreFrozenAt b.journal b.memtables ms xs
      → Every (IsFrozenAt b) (map frozen_at xs)
  frozen-are [] [] h = λ i x e. absurd (cc)
  frozen-are [] (x ∷ xs) h = absurd h
  frozen-are (m ∷ ms) [] h = absurd h
  frozen-are (m ∷ ms) (x ∷ xs) h = first (frozen-are ms xs h.1)
    where
      id : x.1.id ≡ m
      id = ap (λ (z : Cell). z.id) h.0.rows

      first : Every (IsFrozenAt b) (map frozen_at xs) → Every (IsFrozenAt b) (frozen_at x ∷ map frozen_at xs)
      first rest zero y e = subst (IsFrozenAt b) (some e) (record {
        it = h.0.cell.it;
        at = ap (entry b.memtables) id ∙ h.0.cell.at;
        cell_is = h.0.cell.is;
        frozen_is = h.0.rows ∙ ap (λ n. cell_of b.journal n) (sym id);
      })
      first rest (suc i) y e = rest i y e

  -- its pack with its body fits the books
  pub ref-fits : Lawful b → (serial p : ℕ) (body : Body) → (r : IsRefOf b serial p body) → r.it.live ≡ true
      → BodyFits b (record { pack = p; body = body_of body })
  ref-fits lawful serial p body r live =
      live-fits b lawful serial r.it r.at (record { pack = p; body = body_of body }) r.pack_is (record {
        descriptor_is = r.body_is.descriptor_is;
        active = r.body_is.cell.it;
        active_at = r.body_is.cell.at;
        cell_is = sym r.body_is.cell.is;
        list = r.body_is.list;
        list_at = r.body_is.list_at;
        members = members-are r.body_is.list.members (shown body.frozen) r.body_is.frozen;
        frozen = frozen-are r.body_is.list.members (shown body.frozen) r.body_is.frozen;
        version = r.body_is.version;
        version_at = r.body_is.version_at;
        files_are = r.body_is.files_are;
      }) live

-- ---- the current of a family

module _ (b : Books) (lawful : Lawful b) (f : ℕ) (at : HasCurrentAt b f) (p : ℕ) (body : Body)
    (r : IsRefOf b at.serial p body) where
  abbrev x : Bodied
  x = record { pack = p; body = body_of body }

  current-live : r.it.live ≡ true
  current-live =
      let t = current-top b lawful f at.serial at.top at.at at.is in
      ap (λ (s : SuperVersion). s.live) (some (sym r.at ∙ t.2.at)) ∙ t.2.live

  pub current-fits : BodyFits b x
  current-fits = ref-fits b lawful at.serial p body r current-live

  pub current-pack : p ≡ current_of b f
  current-pack = r.pack_is ∙ sym (
      ap (λ o. pack_of_serial b.supers (current_serial o)) at.at
      ∙ ap (pack_of_serial b.supers) at.is
      ∙ ap (pack_at at.serial) r.at
      )

  pub current-big : 256 ≤ p
  current-big = omega (arith, r.pack_is, (entry_le b.supers at.serial r.it r.at).0)

  pub current-shown : IsShown f x
  current-shown =
      let t = current-top b lawful f at.serial at.top at.at at.is in
      let same : r.it ≡ t.2.it = some (sym r.at ∙ t.2.at) in
      let cell = r.body_is.cell in
      let h = (lawful.memtables r.it.descriptor.active).1 (inl (at.serial, r.it, r.at, record { live = current-live; is = refl })) in
      let live : cell.it.live ≡ true = ap (λ (m : Memtable). m.live) (some (sym cell.at ∙ h.at)) ∙ h.live in
      record {
        family = ap (λ d. d.family) r.body_is.descriptor_is
            ∙ ap (λ (z : SuperVersion). z.descriptor.family) same ∙ t.2.family_is;
        cell = omega (arith, (lawful.cells r.it.descriptor.active cell.it cell.at live).0, cell.is);
        pack = current-big;
        small = omega (
          arith,
          r.pack_is,
          (lawful.places at.serial r.it r.at current-live).0,
          (entry_le b.supers at.serial r.it r.at).1,
          lawful.limits.supers,
        );
      }

  -- one more reference of it may be made by the lane that has the DB lock
  pub may-add : f < 16 → (v : LaneView) → IsAtDesk b [] v → CanAdd x v
  may-add near v desk = inr (record { books = b; work = idle; due = [] }, f, desk.db, refl, near, current-pack, current-fits)

-- ---- a family shows a current

pub has-current : (b : Books) (f : ℕ) → 256 ≤ current_of b f → HasCurrentAt b f
has-current b f big = by_top (slice_get b.tops f) refl
  where
    zero_is : (n : ℕ) → n ≡ 0 → 256 ≤ n → ⊥
    zero_is n e h = omega (arith, e, h)

    by_current : (t : Top) → slice_get b.tops f ≡ Some t → (o : Option ℕ) → t.current ≡ o → HasCurrentAt b f
    by_current t at None e = absurd (zero_is (current_of b f)
        (ap (λ z. pack_of_serial b.supers (current_serial z)) at ∙ ap (pack_of_serial b.supers) e) big)
    by_current t at (Some s) e = record { top = t; at = at; serial = s; is = e }

    by_top : (o : Option Top) → slice_get b.tops f ≡ o → HasCurrentAt b f
    by_top None e = absurd (zero_is (current_of b f) (ap (λ z. pack_of_serial b.supers (current_serial z)) e) big)
    by_top (Some t) e = by_current t e t.current refl

-- a cleanup leaves the currents as they are
pub cleans-tops : (a b : Books) → Cleans a b → b.tops ≡ a.tops
cleans-tops a b h = ⊎_elim (λ e. ap (λ (z : Books). z.tops) e) (λ k. ap (λ (z : Books). z.tops) k.2.is) h

pub still-current : (a b : Books) (f : ℕ) → Cleans a b → HasCurrentAt a f → HasCurrentAt b f
still-current a b f h c = record {
  top = c.top;
  at = ap (λ l. slice_get l f) (cleans-tops a b h) ∙ c.at;
  serial = c.serial;
  is = c.is;
}

-- ---- the current as a lane with the DB lock is handed it

module _ (a m : Books) (same : m ≡ a) (v : LaneView) (desk : IsAtDesk a [] v) (f : ℕ) (near : f < 16)
    (at_a : HasCurrentAt a f) (p : ℕ) (body : Body) (ref : (at : HasCurrentAt m f) → IsRefOf m at.serial p body) where
  desk_m : IsAtDesk m [] v
  desk_m = subst (λ (z : Books). IsAtDesk z [] v) (sym same) desk

  at_m : HasCurrentAt m f
  at_m = subst (λ (z : Books). HasCurrentAt z f) (sym same) at_a

  pub lend-held : (256 ≤ p) × CanAdd (record { pack = p; body = body_of body }) v
  lend-held = (
    current-big m desk_m.own.lawful f at_m p body (ref at_m),
    may-add m desk_m.own.lawful f at_m p body (ref at_m) near v desk_m,
  )

  pub lend-lock : (w : LaneView) → w.locks ≡ v.locks
      → HasDesk w (λ d. (d.work ≡ idle) × (p ≡ current_of d.books f))
  lend-lock w locks = (
    record { books = m; work = idle; due = [] },
    ap (λ (k : Locks). k.db) locks ∙ desk_m.db,
    (refl, current-pack m desk_m.own.lawful f at_m p body (ref at_m)),
  )

  pub lend-shown : IsShown f (record { pack = p; body = body_of body })
  lend-shown = current-shown m desk_m.own.lawful f at_m p body (ref at_m)
