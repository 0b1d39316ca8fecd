-- The lanes as a database opens.
use Rattle.std.proofs.Common.{List, None, Option, Some, [], ap, arith, inl, inr, length, map, refl, replicate, slice_get, slice_index_or, subst, suc, sym, zero, ℕ, ⊎_elim, ◌++◌, ◌<◌, ◌∙◌, ◌∷◌, ◌≡◌, ◌≤◌, ◌⊎◌}
use Rattle.std.proofs.lemmas.List.{length-append, length-map, map-append}
use mathlib.Core.List.{append_assoc}
use Rattle.std.specs.List.{remove}
use Rattle.atomic_table.specs.Seated.{TableId}
use Rattle.sv_borrows.specs.Lending.{IsAtRest}
use Rattle.sv_db.specs.Handles.{IsHandleOf}
use Rattle.sv_db.specs.Locals.{HandlesFit, IsLocal, IsNamed, PinsFit, has_name}
use Rattle.sv_db.specs.Opening.{AreFirst, first_handles}
use Rattle.sv_db.proofs.OpenedBooks.{opened-rests}
use Rattle.sv_model.specs.Books.{Books}
use Rattle.sv_model.specs.Lists.{times}
use Rattle.sv_model.specs.declared.sv_refs.SvRef.{SvRef}
use Rattle.sv_model.proofs.Entries.{get_none, some}
use Rattle.sv_objects.specs.declared.bodies.Body.{Body as Kept}
use Rattle.sv_rule.specs.Fits.{Fits}
use Rattle.sv_rule.specs.Views.{LaneView, Start}
use Rattle.sv_rule.specs.declared.parts.Parts.{Ghosts}
use Rattle.sv_rule.proofs.CurrentLaws.{get_lt}
use Rattle.sv_rule.proofs.LaterBooks.{get-map}
use Rattle.sv_rule.proofs.Sums.{same-else}
use Rattle.sv_slots.specs.Openings.{AreOpened, opened_view}
use Rattle.sv_slots.specs.declared.table.LaneSeat.{LaneSeat}

abbrev First : Type 0
First = ℕ × List (Option (List ℕ)) × List (Option (SvRef Kept))

abbrev first_at : ℕ → First
first_at i = (i, first_handles, replicate 16 None)

-- ---- one lane after the other

pub remove-first : {A : Type 0} (l : List A) (x : A) (after : List A) → 0 < length l → x ≡ slice_index_or l 0 x
    → after ≡ remove l 0 → l ≡ x ∷ after
remove-first [] x after h is rest = absurd (omega (arith, h))
remove-first (y ∷ l) x after h is rest = (λ i. sym is i ∷ sym rest i)

-- there is a seat for each lane that is left
pub seats-left : {A S : Type 0} (f : A → S) (l : List A) (seats all : List S) → map f l ++ seats ≡ all → length l < length all
    → 0 < length seats
seats-left f l seats all e less = omega (arith, less, ap (λ z. length z) e, length-append (map f l) seats, length-map l f)

pub push-seated : {A S : Type 0} (f : A → S) (l : List A) (x : A) (s : S) (seats before all : List S) → f x ≡ s
    → before ≡ s ∷ seats → map f l ++ before ≡ all → map f (l ++ x ∷ []) ++ seats ≡ all
push-seated f l x s seats before all is first e =
    ap (λ z. z ++ seats) (map-append f l (x ∷ []))
    ∙ append_assoc (map f l) (f x ∷ []) seats
    ∙ ap (λ z. map f l ++ z ∷ seats) is
    ∙ ap (λ z. map f l ++ z) (sym first) ∙ e

push-at : {A : Type 0} (l : List A) (y : A) (i : ℕ) (x : A) → slice_get (l ++ y ∷ []) i ≡ Some x
    → (slice_get l i ≡ Some x) ⊎ ((i ≡ length l) × (x ≡ y))
push-at [] y zero x e = inr (refl, sym (some e))
push-at [] y (suc i) x e = absurd (get_none i x e)
push-at (z ∷ l) y zero x e = inl e
push-at (z ∷ l) y (suc i) x e = ⊎_elim (λ old. inl old) (λ new. inr (ap suc new.0, new.1)) (push-at l y i x e)

pub push-first : {A : Type 0} (f : A → First) (l : List A) (x : A) → AreFirst (map f l) → f x ≡ first_at (length l)
    → AreFirst (map f (l ++ x ∷ []))
push-first f l x all is i y e = ⊎_elim
    (λ old. all i y old)
    (λ (new : (i ≡ length (map f l)) × (y ≡ f x)). new.1 ∙ is ∙ ap first_at (sym (new.0 ∙ length-map l f)))
    (push-at (map f l) (f x) i y (subst (λ z. slice_get z i ≡ Some y) (map-append f l (x ∷ [])) e))

-- ---- as it opens

no_name : (n k : ℕ) → has_name (slice_get (replicate n None) k) ≡ 0
no_name zero k = refl
no_name (suc n) zero = refl
no_name (suc n) (suc k) = no_name n k

none-there : {A : Type 0} (n k : ℕ) (x : A) → slice_get (replicate n None) k ≡ Some (Some x) → ⊥
none-there zero k x e = absurd (get_none k (Some x) e)
none-there (suc n) zero x e = absurd (let clash : None ≡ Some x = some e in cc)
none-there (suc n) (suc k) x e = none-there n k x e

first-handles : (v : LaneView) → v.known.task.handles ≡ 0 ∷ [] → HandlesFit first_handles v
first-handles v own = record {
  long = refl;
  count = λ f near. ap (times f) own ∙ one f;
  named = λ f name is b fits. by f name is b fits;
  distinct = only;
}
  where
    one : (f : ℕ) → times f (0 ∷ []) ≡ has_name (slice_get first_handles f)
    one zero = refl
    one (suc k) = omega (arith, same-else (suc k) 0 (λ e. omega (arith, e)), no_name 15 k)

    by : (f : ℕ) (name : List ℕ) → IsHandleOf name first_handles f → (b : Books) → Fits b v.known → IsNamed b f name
    by zero name is b fits = let d = fits.lawful.default in
        record { it = d.it; at = d.at; name_is = d.name_is ∙ some (some is) }
    by (suc k) name is b fits = absurd (none-there 15 k name is)

    only : (f g : ℕ) (name : List ℕ) → IsHandleOf name first_handles f → IsHandleOf name first_handles g → f ≡ g
    only zero zero name is other = refl
    only (suc k) g name is other = absurd (none-there 15 k name is)
    only zero (suc k) name is other = absurd (none-there 15 k name other)

first-pins : (v : LaneView) → v.hand ≡ [] → PinsFit (replicate 16 None) v
first-pins v none = record {
  long = refl;
  hand = λ p. ap (times p) none;
  count = ap (λ l. length l) none;
  each = λ n sv is. absurd (none-there 16 n sv is);
}

opened-handles : (lanes : ℕ) (start : Start) (i : ℕ) → (opened_view lanes start i).known.task.handles ≡ 0 ∷ []
opened-handles lanes start zero = refl
opened-handles lanes start (suc i) = refl

opened-hand : (lanes : ℕ) (start : Start) (i : ℕ) → (opened_view lanes start i).hand ≡ []
opened-hand lanes start zero = refl
opened-hand lanes start (suc i) = refl

opened-lanes : (lanes : ℕ) (start : Start) (i : ℕ) → lanes ≡ (opened_view lanes start i).seat.lanes
opened-lanes lanes start zero = refl
opened-lanes lanes start (suc i) = refl

opened-lane : (lanes : ℕ) (start : Start) (i : ℕ) → i ≡ (opened_view lanes start i).known.lane
opened-lane lanes start zero = refl
opened-lane lanes start (suc i) = refl

module _ {P S D C B : Type 0} {g : Ghosts P S D C B} {A : Type 0} (t : TableId) (lanes : ℕ) (start : Start)
    (some_lanes : (0 < lanes) × (lanes ≤ 32)) (seat : A → LaneSeat P S D C B g) (own : A → First) (l : List A)
    (opened : AreOpened t lanes start (map seat l)) (first : AreFirst (map own l)) where
  pub are-locals : (i : ℕ) (x : A) → slice_get l i ≡ Some x
      → IsLocal t lanes (own x).0 (own x).1 (own x).2 (seat x)
  are-locals i x e =
      let it = opened.each i (seat x) (get-map seat l i x e) in
      let is : own x ≡ first_at i = first i (own x) (get-map own l i x e) in
      let near : i < lanes = omega (arith, get_lt l i x e, opened.count, length-map l seat) in
      subst (λ (z : First). IsLocal t lanes z.0 z.1 z.2 (seat x)) (sym is) (record {
        table = it.table;
        rest = subst IsAtRest (sym it.view_is) (opened-rests lanes start i);
        some = (some_lanes.0, some_lanes.1, subst (λ (v : LaneView). lanes ≡ v.seat.lanes) (sym it.view_is) (opened-lanes lanes start i));
        number = (omega (arith, near, some_lanes.1), subst (λ (v : LaneView). i ≡ v.known.lane) (sym it.view_is) (opened-lane lanes start i));
        handles = subst (HandlesFit first_handles) (sym it.view_is) (first-handles (opened_view lanes start i) (opened-handles lanes start i));
        pins = subst (PinsFit (replicate 16 None)) (sym it.view_is) (first-pins (opened_view lanes start i) (opened-hand lanes start i));
      })
