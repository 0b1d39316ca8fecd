-- Pins that come and go.
use Rattle.std.proofs.Common.{List, None, Option, Some, [], ap, arith, get_or, inl, inr, length, refl, slice_get, slice_set, subst, suc, sym, zero, ℕ, ◌+◌, ◌<◌, ◌∙◌, ◌∷◌, ◌≡◌, ◌≤◌}
use mathlib.Core.Logic.{dite}
use native.Mathlib.Decide.{ℕ_discrete}
use Rattle.std.specs.Prelude.{cond, false, is_some, position, true}
use Rattle.std.proofs.lemmas.Bool.{eq-eqb, ne_eqb}
use Rattle.std.proofs.lemmas.List.Folds.{list_any_at}
use Rattle.std.proofs.lemmas.List.{length-set}
use Rattle.std.proofs.lemmas.List.Quantifiers.{position-Some}
use Rattle.std.proofs.lemmas.Option.{get_or_from_slice_get, slice_get-get_or, slice_get_cases, slice_get_read}
use Rattle.sv_family.proofs.SoughtFamilies.{position_any}
use Rattle.sv_borrows.specs.Lending.{Drops, IsAtRest, IsFree, less}
use Rattle.sv_db.specs.Locals.{IsLocal, IsPinned, PinsFit, pinned}
use Rattle.sv_db.specs.Pins.{AreAllTaken, HasNoPin, IsLeastFree, IsPin, is_free, pin_count, pin_one}
use Rattle.sv_db.proofs.Keeping.{drops-keeps, goes-keeps, less-keeps, local-with, still-pinned}
use Rattle.sv_gets.specs.Getting.{Pins}
use Rattle.sv_gets.specs.Reading.{MayRead}
use Rattle.sv_laws.proofs.GrownRegisters.{placed-set}
use Rattle.sv_model.specs.Lists.{same, times, total}
use Rattle.sv_model.specs.declared.sv_refs.SvRef.{SvRef}
use Rattle.sv_model.proofs.Entries.{get_none, some}
use Rattle.sv_objects.specs.declared.bodies.Body.{Body as Kept}
use Rattle.sv_rule.specs.Sums.{without}
use Rattle.sv_rule.specs.Views.{LaneView}
use Rattle.sv_rule.specs.declared.parts.Parts.{Ghosts}
use Rattle.sv_slots.specs.Known.{IsSameSeat, view_of}
use Rattle.sv_slots.specs.declared.table.LaneSeat.{LaneSeat}
use Rattle.atomic_table.specs.Seated.{TableId}
use Rattle.sv_rule.specs.SlotPlays.{IsShown}
use Rattle.sv_rule.proofs.CurrentLaws.{get_lt}
use Rattle.sv_rule.proofs.Sums.{length-without, same-else, same-self, total-without}

abbrev Slots : Type 0
Slots = List (Option (SvRef Kept))

-- an item of a list is another one
total-put : {A : Type 0} (g : A → ℕ) (l : List A) (i : ℕ) (x y : A) → slice_get l i ≡ Some x
    → total g (slice_set l i y) + g x ≡ total g l + g y
total-put g [] i x y e = absurd (get_none i x e)
total-put g (z ∷ l) zero x y e = omega (arith, ap g (some e))
total-put g (z ∷ l) (suc i) x y e = omega (arith, total-put g l i x y e)

-- one is taken out of a list that has it
length-taken : (p : ℕ) (l : List ℕ) → 0 < total (same p) l → length (without p l) + 1 ≡ length l
length-taken p [] h = absurd (omega (arith, h))
length-taken p (x ∷ l) h = dite (ℕ_discrete x p)
    (λ e. omega (arith, ap (λ b. length (cond b l (x ∷ without p l))) (eq-eqb x p e)))
    (λ ne. omega (
      arith,
      ap (λ b. length (cond b l (x ∷ without p l))) (ne_eqb x p ne),
      length-taken p l (omega (arith, h, same-else p x ne)),
    ))

-- ---- a pin comes

pub adds-fit : (f : ℕ) (pins : Slots) (n : ℕ) (sv : SvRef Kept) (v w : LaneView) → f < 16 → PinsFit pins v
    → slice_get pins n ≡ Some None → Pins f (pinned sv) v w → PinsFit (slice_set pins n (Some sv)) w
adds-fit f pins n sv v w near fit free p = record {
  long = length-set pins n (Some sv) ∙ fit.long;
  hand = λ q. omega (
    arith,
    ap (times q) p.hand,
    fit.hand q,
    total-put (pin_count q) pins n None (Some sv) free,
  );
  count = omega (arith, ap (λ l. length l) p.hand, fit.count, total-put pin_one pins n None (Some sv) free);
  each = λ m k is. dite (ℕ_discrete m n)
      (λ e. let same : sv ≡ k = some (some (sym (placed-set pins n None (Some sv) free).here
      ∙ ap (slice_get (slice_set pins n (Some sv))) (sym e) ∙ is)) in
      subst (λ z. IsPinned w (pinned z)) same new)
      (λ ne. still-pinned v w (less-keeps (pinned sv).pack v w (goes-keeps f v (less (pinned sv).pack w) p.goes)).carries (pinned k)
      (fit.each m k (sym ((placed-set pins n None (Some sv) free).others m ne) ∙ is)));
}
  where
    new : IsPinned w (pinned sv)
    new = record {
      near = omega (arith, near, p.shown.family);
      has = p.has;
      shown = subst (λ g. IsShown g (pinned sv)) (sym p.shown.family) p.shown;
    }

-- ---- a pin goes

-- the reference that a pin keeps is in the lane's hand
pub pin-held : (pins : Slots) (n : ℕ) (sv : SvRef Kept) (v : LaneView) → PinsFit pins v → IsPin pins n sv
    → 0 < times sv.pack v.hand
pin-held pins n sv v fit is = omega (
  arith,
  fit.hand sv.pack,
  total-put (pin_count sv.pack) pins n (Some sv) None is,
  same-self sv.pack,
)

pub may-drop : (pins : Slots) (n : ℕ) (sv : SvRef Kept) (v : LaneView) → PinsFit pins v → IsPin pins n sv
    → (256 ≤ sv.pack) × (0 < times sv.pack v.hand)
may-drop pins n sv v fit is = ((fit.each n sv is).shown.pack, pin-held pins n sv v fit is)

pub less-free : (p : ℕ) (v : LaneView) → IsAtRest v → IsFree (less p v) × (v.owes ≡ [])
less-free p v rest = (
  record {
    alive = rest.free.alive;
    locks = rest.free.locks;
    ends = rest.free.ends;
    few = omega (arith, length-without p v.hand, rest.free.few);
  },
  rest.owes,
)

-- the lane may read what it pinned
pub pin-read : (pins : Slots) (n : ℕ) (sv : SvRef Kept) (v : LaneView) → PinsFit pins v → IsPin pins n sv
    → MayRead (pinned sv).body.descriptor.family (pinned sv) v
pin-read pins n sv v fit is = let it = fit.each n sv is in record {
  near = it.near;
  has = it.has;
  held = inl (pin-held pins n sv v fit is);
  shown = it.shown;
}

pub drops-fit : (pins : Slots) (n : ℕ) (sv : SvRef Kept) (v w : LaneView) → PinsFit pins v → IsPin pins n sv
    → Drops sv.pack v w → PinsFit (slice_set pins n None) w
drops-fit pins n sv v w fit is d = record {
  long = length-set pins n None ∙ fit.long;
  hand = λ q. omega (
    arith,
    ap (times q) d.hand,
    total-without sv.pack v.hand held q,
    fit.hand q,
    total-put (pin_count q) pins n (Some sv) None is,
  );
  count = omega (
    arith,
    ap (λ l. length l) d.hand,
    length-taken sv.pack v.hand held,
    fit.count,
    total-put pin_one pins n (Some sv) None is,
  );
  each = λ m k is_k. dite (ℕ_discrete m n)
      (λ e. absurd (let none : None ≡ Some k = some (sym (placed-set pins n (Some sv) None is).here
      ∙ ap (slice_get (slice_set pins n None)) (sym e) ∙ is_k) in cc))
      (λ ne. still-pinned v w (drops-keeps sv.pack v w d).carries (pinned k)
      (fit.each m k (sym ((placed-set pins n (Some sv) None is).others m ne) ∙ is_k)));
}
  where
    held : 0 < times sv.pack v.hand
    held = pin-held pins n sv v fit is

-- ---- numbers

free_is : (o : Option (SvRef Kept)) → is_free o ≡ true → o ≡ None
free_is None e = refl
free_is (Some sv) e = absurd (cc)

taken_is : (o : Option (SvRef Kept)) → is_free o ≡ false → (sv : SvRef Kept) × (o ≡ Some sv)
taken_is None e = absurd (cc)
taken_is (Some sv) e = (sv, refl)

pub least-free : (pins : Slots) → (n : ℕ) → position is_free pins ≡ Some n → IsLeastFree pins n × (n < length pins)
least-free pins n e =
    let h = position-Some is_free pins n None e in (
      record {
        free = slice_get-get_or pins n None h.0 ∙ ap Some (free_is (get_or pins n None) h.1);
        least = λ m low. let t = taken_is (get_or pins m None) (h.2 m low) in
            (t.0, slice_get-get_or pins m None (omega (arith, low, h.0)) ∙ ap Some t.1);
      },
      h.0,
    )

pub all-taken : (pins : Slots) → length pins ≡ 16 → position is_free pins ≡ None → AreAllTaken pins
all-taken pins long e n low = by (slice_get pins n) refl
  where
    past : slice_get pins n ≡ None → length pins ≤ n
    past is = elim ((slice_get_cases pins n).1) [
      | inl has ↦ absurd (let clash : None ≡ Some has.0 = sym is ∙ has.2 in cc)
      | inr over ↦ over.0
    ]

    by : (o : Option (Option (SvRef Kept))) → slice_get pins n ≡ o → (sv : SvRef Kept) × IsPin pins n sv
    by None is = absurd (omega (arith, long, low, past is))
    by (Some None) is = absurd (
        let any = list_any_at is_free pins n None (omega (arith, long, low))
        (ap is_free (get_or_from_slice_get pins n None None is)) in
        let no : false ≡ true = sym (ap is_some e) ∙ position_any is_free pins ∙ any in cc)
    by (Some (Some sv)) is = (sv, is)

pub few-pins : (pins : Slots) → length pins ≡ 16 → total pin_one pins ≤ 16
few-pins pins long = omega (arith, most pins, long)
  where
    most : (l : Slots) → total pin_one l ≤ length l
    most [] = omega arith
    most (None ∷ l) = omega (arith, most l)
    most (Some sv ∷ l) = omega (arith, most l)

set-same : {A : Type 0} (l : List A) (i : ℕ) (x : A) → slice_get l i ≡ Some x → slice_set l i x ≡ l
set-same [] i x e = refl
set-same (y ∷ l) zero x e = ap (λ z. z ∷ l) (sym (some e))
set-same (y ∷ l) (suc i) x e = ap (λ z. y ∷ z) (set-same l i x e)

-- where nothing was taken there was no pin
pub nothing-taken : (pins : Slots) (n : ℕ) (o : Option (SvRef Kept)) → n < length pins → o ≡ get_or pins n o → o ≡ None
    → HasNoPin pins n × (slice_set pins n None ≡ pins)
nothing-taken pins n o near is none =
    let here : slice_get pins n ≡ Some None = slice_get_read pins (length pins) n o refl near is ∙ ap Some none in (
      λ sv pin. absurd (let clash : None ≡ Some sv = some (sym here ∙ pin) in cc),
      set-same pins n None here,
    )

pub no-pin : (pins : Slots) (n : ℕ) → length pins ≡ 16 → 16 ≤ n → HasNoPin pins n
no-pin pins n long past sv pin = omega (arith, get_lt pins n (Some sv) pin, long, past)

-- ---- the lane

module _ {P S D C B : Type 0} {g : Ghosts P S D C B} (t : TableId) (lanes lane : ℕ) (names : List (Option (List ℕ)))
    (pins : Slots) (old new : LaneSeat P S D C B g) (same_seat : IsSameSeat old new)
    (was : IsLocal t lanes lane names pins old) where
  pub unpinned-local : (n : ℕ) (sv : SvRef Kept) → IsPin pins n sv → Drops sv.pack (view_of old) (view_of new)
      → IsLocal t lanes lane names (slice_set pins n None) new
  unpinned-local n sv is d = local-with t lanes lane names pins old new same_seat
      (drops-keeps sv.pack (view_of old) (view_of new) d) was (slice_set pins n None)
      (omega (arith, ap (λ l. length l) d.hand, length-without sv.pack (view_of old).hand, was.rest.free.few))
      (drops-fit pins n sv (view_of old) (view_of new) was.pins is d)

  pub pinned-local : (f n : ℕ) (sv : SvRef Kept) → f < 16 → slice_get pins n ≡ Some None
      → Pins f (pinned sv) (view_of old) (view_of new) → IsLocal t lanes lane names (slice_set pins n (Some sv)) new
  pinned-local f n sv near free p = local-with t lanes lane names pins old new same_seat
      (less-keeps (pinned sv).pack (view_of old) (view_of new) (goes-keeps f (view_of old) (less (pinned sv).pack (view_of new)) p.goes))
      was (slice_set pins n (Some sv))
      (omega (arith, ap (λ l. length l) p.hand, was.pins.count, few-pins pins was.pins.long))
      (adds-fit f pins n sv (view_of old) (view_of new) near was.pins free p)
