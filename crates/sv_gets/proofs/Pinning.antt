-- A pin: the current is borrowed, one more reference of it is taken, and the borrow is given back.
use Rattle.std.specs.Prelude.{Err, IfErr, IfOk, Ok, Result}
use Rattle.std.proofs.Common.{[], length, ◌+◌, ap, arith, inl, inr, refl, subst, sym, ℕ, ⊎_elim, ◌<◌, ◌∙◌, ◌∷◌, ◌≡◌, ◌≤◌}
use Rattle.sv_borrows.specs.Grown.{Cleans}
use Rattle.sv_borrows.specs.Lending.{Borrows, GivesBack, IsFree, less}
use Rattle.sv_borrows.specs.Parts.{body_of}
use Rattle.sv_borrows.proofs.Growing.{givings-on, grows-on, in-front}
use Rattle.sv_borrows.proofs.Lists.{without-first}
use Rattle.sv_gets.specs.Getting.{Goes, Pins, PinsNone}
use Rattle.sv_model.specs.Lists.{In, at}
use Rattle.sv_model.specs.declared.faults.OutOfMemory.{OutOfMemory}
use Rattle.sv_model.specs.declared.sv_refs.SvRef.{SvRef}
use Rattle.sv_objects.specs.declared.bodies.Body.{Body as Kept}
use Rattle.sv_model.proofs.AfterLaws.{continues-itself}
use Rattle.sv_rule.specs.ReferencePlays.{CanAdd, added}
use Rattle.sv_rule.specs.Sums.{without}
use Rattle.sv_rule.specs.Table.{names, slot_of}
use Rattle.sv_rule.specs.Views.{Bodied, LaneView, Seat, SlotView, away, borrow}
use Rattle.sv_rule.proofs.Sums.{at_le, same-self}
use Rattle.sv_slots.specs.Seats.{Lends, bodied}

module _ (f : ℕ) (x : Bodied) (v w₁ : LaneView) (h : Borrows f x v w₁) where
  names_one : (s : SlotView) (n : ℕ) → s ≡ borrow x.pack n → names x.pack s ≡ 1
  names_one s n e = ap (names x.pack) e ∙ same-self x.pack

  pub can-add : (256 ≤ x.pack) × CanAdd x w₁
  can-add = (
    h.shown.pack,
    inl (
      omega (arith, at_le (names x.pack) away refl w₁.slots.slot f, names_one (slot_of w₁ f) (at 0 v.known.seen f) h.slot),
      h.has,
    ),
  )

  -- there was memory for one more reference
  module _ (w : LaneView) (k : GivesBack f x.pack (added x w₁) w) where
    hand_is : w.hand ≡ x.pack ∷ v.hand
    hand_is = k.hand ∙ ap (λ l. x.pack ∷ l) h.hand

    goes-less : Goes f v (less x.pack w)
    goes-less = record {
      grows = grows-on v.known w₁.known w.known h.grows (grows-on w₁.known (added x w₁).known w.known (record {
        base = refl;
        found = continues-itself w₁.known.found;
        left = continues-itself w₁.known.left;
        bodies = (x ∷ [], refl);
        rows = continues-itself w₁.known.rows;
        reads = continues-itself w₁.known.reads;
        seen = λ g. omega arith;
      }) k.grows);
      seat = k.seat ∙ h.seat;
      locks = k.locks ∙ h.locks;
      slot = k.slot;
      others = λ g ne. k.others g ne ∙ h.others g ne;
      hand = ap (without x.pack) hand_is ∙ without-first x.pack v.hand;
      owes = k.owes ∙ h.owes;
      joined = k.joined ∙ h.joined;
      givings = givings-on Cleans v.known w₁.known w.known h.givings (record {
        takings = k.givings.takings;
        givings = k.givings.givings;
        found = k.givings.found;
        left = k.givings.left;
        each = k.givings.each;
      });
      uses = k.uses ∙ h.uses;
      takes = omega (arith, k.takes, h.takes);
      misses = omega (arith, k.misses, h.misses);
      swept = omega (arith, k.swept, h.swept);
      faults = omega (arith, k.faults, h.faults);
      locked = λ m s. k.locked (omega (arith, s, k.swept, h.swept)) ∙ h.locked (omega (arith, m, k.misses));
    }

    pub pins : Pins f x v w
    pins = record {
      hand = hand_is;
      goes = goes-less;
      has = in-front x (added x w₁).known.bodies w.known.bodies k.grows.bodies (in-front x w₁.known.bodies (added x w₁).known.bodies (x ∷ [], refl) h.has);
      shown = h.shown;
      looks = omega (arith, k.looks, h.looks);
      looked = ap (λ l. at 0 l f) k.looked ∙ h.looked;
      takes = k.takes ∙ h.takes;
      cached = ⊎_elim (λ e. inl e) (λ s. inr (omega (arith, s, h.swept))) k.cached;
    }

  -- there was none
  module _ (w : LaneView) (k : GivesBack f x.pack w₁ w) where
    pub pins-none : PinsNone f v w
    pins-none = record {
      goes = record {
        grows = grows-on v.known w₁.known w.known h.grows k.grows;
        seat = k.seat ∙ h.seat;
        locks = k.locks ∙ h.locks;
        slot = k.slot;
        others = λ g ne. k.others g ne ∙ h.others g ne;
        hand = k.hand ∙ h.hand;
        owes = k.owes ∙ h.owes;
        joined = k.joined ∙ h.joined;
        givings = givings-on Cleans v.known w₁.known w.known h.givings k.givings;
        uses = k.uses ∙ h.uses;
        takes = omega (arith, k.takes, h.takes);
        misses = omega (arith, k.misses, h.misses);
        swept = omega (arith, k.swept, h.swept);
        faults = omega (arith, k.faults, h.faults);
        locked = λ m s. k.locked (omega (arith, s, k.swept, h.swept)) ∙ h.locked (omega (arith, m, k.misses));
      };
      takes = k.takes ∙ h.takes;
    }

-- ---- whichever it was

-- the answer of the reference that was asked for, and what it left
abbrev pub Added : Bodied → Result (SvRef Kept) OutOfMemory → LaneView → LaneView → Type 0
Added x r w u = IfOk r (λ s. (bodied body_of s ≡ x) × (u ≡ added x w)) × IfErr r (λ _. u ≡ w)

module _ (f : ℕ) (x : Bodied) (v w₁ : LaneView) (h : Borrows f x v w₁) where
  pub added-free : (r : Result (SvRef Kept) OutOfMemory) (u : LaneView) → Added x r w₁ u → IsFree v → length v.hand + 1 < 65500
      → v.owes ≡ [] → IsFree u × (u.owes ≡ [])
  added-free (Ok s) u a free room owes = subst (λ (z : LaneView). IsFree z × (z.owes ≡ [])) (sym a.0.1) (
    record {
      alive = ap (λ (s : Seat). s.spent) h.seat ∙ free.alive;
      locks = h.locks ∙ free.locks;
      ends = ap (λ (s : Seat). s.ends) h.seat ∙ free.ends;
      few = omega (arith, room, ap (λ l. length l) h.hand);
    },
    h.owes ∙ owes,
  )
  added-free (Err e) u a free room owes = subst (λ (z : LaneView). IsFree z × (z.owes ≡ [])) (sym a.1) (
    record {
      alive = ap (λ (s : Seat). s.spent) h.seat ∙ free.alive;
      locks = h.locks ∙ free.locks;
      ends = ap (λ (s : Seat). s.ends) h.seat ∙ free.ends;
      few = omega (arith, room, ap (λ l. length l) h.hand);
    },
    h.owes ∙ owes,
  )

  pub added-lends : (r : Result (SvRef Kept) OutOfMemory) (u : LaneView) → Added x r w₁ u → Lends u f x.pack
  added-lends (Ok s) u a = subst (λ (z : LaneView). Lends z f x.pack) (sym a.0.1) (at 0 v.known.seen f, h.slot)
  added-lends (Err e) u a = subst (λ (z : LaneView). Lends z f x.pack) (sym a.1) (at 0 v.known.seen f, h.slot)

  pub added-knows : (r : Result (SvRef Kept) OutOfMemory) (u : LaneView) → Added x r w₁ u → In x u.known.bodies
  added-knows (Ok s) u a = subst (λ (z : LaneView). In x z.known.bodies) (sym a.0.1)
      (in-front x w₁.known.bodies (added x w₁).known.bodies (x ∷ [], refl) h.has)
  added-knows (Err e) u a = subst (λ (z : LaneView). In x z.known.bodies) (sym a.1) h.has

  pub added-pins : (r : Result (SvRef Kept) OutOfMemory) (u w : LaneView) → Added x r w₁ u → GivesBack f x.pack u w
      → IfOk r (λ sv. Pins f (bodied body_of sv) v w)
  added-pins (Ok s) u w a k = subst (λ z. Pins f z v w) (sym a.0.0)
      (pins f x v w₁ h w (subst (λ (z : LaneView). GivesBack f x.pack z w) a.0.1 k))
  added-pins (Err e) u w a k = tt

  pub added-none : (r : Result (SvRef Kept) OutOfMemory) (u w : LaneView) → Added x r w₁ u → GivesBack f x.pack u w
      → IfErr r (λ _. PinsNone f v w)
  added-none (Ok s) u w a k = tt
  added-none (Err e) u w a k = pins-none f x v w₁ h w (subst (λ (z : LaneView). GivesBack f x.pack z w) a.1 k)
