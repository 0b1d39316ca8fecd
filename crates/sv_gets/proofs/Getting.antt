-- A get: the current is borrowed, read, and given back.
use Rattle.std.proofs.Common.{List, ap, arith, inl, inr, subst, sym, ℕ, ⊎_elim, ◌%◌, ◌++◌, ◌/◌, ◌<◌, ◌∙◌, ◌≡◌}
use Rattle.std.specs.Prelude.{Bool, Option, is_some}
use Rattle.sv_borrows.specs.Grown.{Cleans}
use Rattle.sv_borrows.specs.Lending.{Borrows, GivesBack}
use Rattle.sv_borrows.proofs.Growing.{Base, givings-on, grows-fits, grows-on}
use Rattle.sv_gets.specs.Getting.{Gets, Goes}
use Rattle.sv_gets.specs.Reading.{FindsIn, MayRead, Reads, StopsRead, is_told}
use Rattle.sv_model.specs.Lists.{at}
use Rattle.sv_model.specs.Reads.{LooksAt}
use Rattle.sv_model.specs.declared.refusals.Refusal.{Refusal}
use Rattle.sv_model.specs.declared.refusals.Refusal.TheVariants as refusal
use Rattle.sv_rule.specs.Views.{Bodied, LaneView, Slots, away}
use Rattle.sv_slots.specs.Seats.{Lends}

pub may-read : (f : ℕ) → f < 16 → (x : Bodied) (v w : LaneView) → Borrows f x v w → MayRead x.body.descriptor.family x w
may-read f near x v w h = subst (λ g. MayRead g x w) (sym h.shown.family) (record {
  near = near;
  has = h.has;
  held = inr (f, at 0 v.known.seen f, near, h.slot);
  shown = h.shown;
})

-- a read leaves the borrow
pub still-lent : (f : ℕ) (x : Bodied) (v w₁ w₂ : LaneView) → Borrows f x v w₁ → Reads 1 w₁ w₂ → Lends w₂ f x.pack
still-lent f x v w₁ w₂ h r = (at 0 v.known.seen f, ap (λ (s : Slots). at away s.slot f) r.slots ∙ h.slot)

module _ (f : ℕ) (x : Bodied) (v w₁ w₂ w : LaneView) (h : Borrows f x v w₁) (r : Reads 1 w₁ w₂)
    (k : GivesBack f x.pack w₂ w) where
  pub goes : Goes f v w
  goes = record {
    grows = grows-on v.known w₁.known w.known h.grows (grows-on w₁.known w₂.known w.known r.grows k.grows);
    seat = k.seat ∙ r.seat ∙ h.seat;
    locks = k.locks ∙ r.locks ∙ h.locks;
    slot = k.slot;
    others = λ g ne. k.others g ne ∙ ap (λ (s : Slots). at away s.slot g) r.slots ∙ h.others g ne;
    hand = k.hand ∙ r.hand ∙ h.hand;
    owes = k.owes ∙ r.owes ∙ h.owes;
    joined = k.joined ∙ r.joined ∙ h.joined;
    givings = givings-on Cleans v.known w₁.known w.known h.givings (record {
      takings = k.givings.takings;
      givings = k.givings.givings;
      found = k.givings.found ∙ ap (λ z. z ++ k.givings.takings) r.found;
      left = k.givings.left ∙ ap (λ z. z ++ k.givings.givings) r.left;
      each = k.givings.each;
    });
    uses = k.uses ∙ r.uses ∙ h.uses;
    takes = omega (arith, k.takes, r.takes, h.takes);
    misses = omega (arith, k.misses, r.misses, h.misses);
    swept = omega (arith, k.swept, r.swept, h.swept);
    faults = omega (arith, k.faults, r.faults, h.faults);
    locked = λ m s. k.locked (omega (arith, s, k.swept, r.swept, h.swept)) ∙ r.found
        ∙ h.locked (omega (arith, m, k.misses, r.misses));
  }

  -- what the lane was told of the directory at the opening
  told_is : is_told w ≡ is_told w₂
  told_is = ap (λ (z : Base). is_some z.1.disk.files) k.grows.base

  pub gets : (key : List ℕ) (value : Option (List ℕ)) (cut serial : ℕ) → serial ≡ x.pack / 256
      → FindsIn f x key value cut w₁ w₂ → Gets f key (record { value = value; cut = cut; sv = serial }) v w
  gets key value cut serial is d =
      let slots = ap (λ (s : Slots). s.looked) r.slots in
      let looked : at 0 w.slots.looked f ≡ x.pack = ap (λ l. at 0 l f) (k.looked ∙ slots) ∙ h.looked in
      record {
        finds = λ b fits. subst (λ (z : Bool × ℕ). LooksAt z.0 b f key value cut z.1) (λ i. (sym told_is i, sym is i))
            (d.finds b (grows-fits w₂.known w.known k.grows b fits));
        least = d.floor (at 0 v.known.seen f) h.slot;
        seen = omega (arith, d.seen, k.grows.seen f);
        looks = omega (arith, h.looks, r.looks, k.looks);
        place = x.pack % 256;
        shown = omega (arith, looked, is);
        within = omega arith;
        takes = omega (arith, k.takes, r.takes, h.takes);
        cached = ⊎_elim (λ e. inl (e ∙ sym looked)) (λ s. inr (omega (arith, s, r.swept, h.swept))) k.cached;
      }

  stop : (e : Refusal) → StopsRead w₁ w₂ e → StopsRead v w e
  stop refusal.OutOfMemory s = tt
  stop (refusal.DirFault n) s = omega (arith, s, h.faults, k.faults)
  stop (refusal.BadFile n place) s = λ told b fits. s (sym told_is ∙ told) b (grows-fits w₂.known w.known k.grows b fits)
  stop e s = absurd s

  pub stops : (e : Refusal) → StopsRead w₁ w₂ e → StopsRead v w e
  stops e s = stop e s
