-- What a lane carries, along the steps on its slots.
use Rattle.std.proofs.Common.{List, None, Option, Some, [], ap, arith, cond, drop, length, refl, subst, suc, sym, zero, ℕ, ◌+◌, ◌<◌, ◌∙◌, ◌∷◌, ◌≡◌, ◌≤◌, ne_eqb}
use mathlib.Core.Logic.{dite}
use native.Mathlib.Decide.{ℕ_discrete}
use Rattle.atomic_table.specs.Table.{rest}
use Rattle.sv_model.specs.Lists.{same, times, total, at}
use Rattle.sv_rule.proofs.Sums.{at-put_else, at-put_same, length-put, same-self, total-put}
use Rattle.sv_rule.specs.Sums.{put}
use Rattle.sv_rule.specs.Sweep.{lent}
use Rattle.sv_rule.specs.Table.{slot_home, slot_of, spot}
use Rattle.sv_rule.specs.Tasks.{some_count}
use Rattle.sv_rule.specs.Views.{LaneView, Locks, SlotView, away, borrow, held}
use Rattle.sv_rule.specs.declared.parts.Stored.{Stored}
use Rattle.sv_rule.specs.declared.parts.Stored.TheVariants as is
use Rattle.sv_slots.specs.Carried.{Carries, ahead, nothings, out_cell, out_lock, out_slot, out_slots}
use Rattle.sv_slots.specs.Seats.{CarriesAt}
use Rattle.sv_slots.proofs.Turns.{ahead-times}

out_slots-put : (k i : ℕ) (l : List SlotView) (f j : ℕ) (x : SlotView) → j ≡ i + f
    → out_slots k i (put away l f x) + out_slot k j (at away l f) ≡ out_slots k i l + out_slot k j x
out_slots-put k i [] zero j x e =
    let h : out_slot k i x ≡ out_slot k j x = ap (λ z. out_slot k z x) (omega (arith, e)) in omega (arith, h)
out_slots-put k i [] (suc f) j x e = omega (arith, out_slots-put k (suc i) [] f j x (omega (arith, e)))
out_slots-put k i (y ∷ l) zero j x e =
    let h : out_slot k i x ≡ out_slot k j x = ap (λ z. out_slot k z x) (omega (arith, e)) in
    let h' : out_slot k i y ≡ out_slot k j y = ap (λ z. out_slot k z y) (omega (arith, e)) in omega (arith, h, h')
out_slots-put k i (y ∷ l) (suc f) j x e = omega (arith, out_slots-put k (suc i) l f j x (omega (arith, e)))

out_slots_ge : (k i : ℕ) (l : List SlotView) (f j : ℕ) → j ≡ i + f → out_slot k j (at away l f) ≤ out_slots k i l
out_slots_ge k i [] f j e = omega arith
out_slots_ge k i (y ∷ l) zero j e =
    let h : out_slot k i y ≡ out_slot k j y = ap (λ z. out_slot k z y) (omega (arith, e)) in omega (arith, h)
out_slots_ge k i (y ∷ l) (suc f) j e = omega (arith, out_slots_ge k (suc i) l f j (omega (arith, e)))

-- what the carried slots depend on
abbrev pub carry : LaneView → Locks × ℕ × List SlotView
carry v = (v.locks, v.known.lane, v.slots.slot)

abbrev out_at : ℕ → Locks × ℕ × List SlotView → ℕ
out_at k z = out_lock k 0 z.0.db + out_lock k 1 z.0.dir + out_cell k z.0.cell
    + out_slots k (slot_home (spot z.1 0)) z.2

abbrev many_at : Locks × ℕ × List SlotView → ℕ
many_at z = some_count z.0.db + some_count z.0.dir + some_count z.0.cell + total lent z.2

-- the first of a list, where nothing lies before it
pub first_is : (k y : ℕ) (l : List ℕ) → ahead k (y ∷ l) ≡ 0 → y ≡ k
first_is k y l h = dite (ℕ_discrete y k) (λ e. e)
    (λ n. absurd (omega (arith, h, ap (λ b. cond b 0 (suc (ahead k l))) (ne_eqb y k n))))

lock_le : {A : Type 0} (x : Option A) → some_count x ≤ 1
lock_le None = omega arith
lock_le (Some x) = omega arith

one_le : (x : SlotView) → lent x ≤ 1
one_le away = omega arith
one_le (held p) = omega arith
one_le (borrow p n) = omega arith

slots_le : (l : List SlotView) → total lent l ≤ length l
slots_le [] = omega arith
slots_le (x ∷ l) = omega (arith, one_le x, slots_le l)

module _ {S D C B : Type 0} (v : LaneView) (c : List (ℕ × Stored S D C B)) (out : List ℕ) (h : Carries v c out) where
  -- no more slots than there is room for
  pub carries_few : length out < 24
  carries_few = omega (
    arith,
    h.many,
    slots_le v.slots.slot,
    h.few,
    lock_le v.locks.db,
    lock_le v.locks.dir,
    lock_le v.locks.cell,
  )

  -- a borrow's slot is among them
  pub carries_lent : (f lane p n : ℕ) → v.known.lane ≡ lane → slot_of v f ≡ borrow p n
      → ahead (slot_home (spot lane f)) out < length out
  carries_lent f lane p n mine e =
      let k = slot_home (spot lane f) in
      let one : out_slot k k (slot_of v f) ≡ 1 = ap (out_slot k k) e ∙ same-self k in
      let base : k ≡ slot_home (spot v.known.lane 0) + f = omega (arith, mine) in
      let ge = out_slots_ge k (slot_home (spot v.known.lane 0)) v.slots.slot f k base in
      let count : 0 < times k out = omega (arith, h.each k, ge, one) in
      ahead-times k out count

module _ {S D C B : Type 0} (v w : LaneView) (c d : List (ℕ × Stored S D C B)) (out : List ℕ) (f : ℕ)
    (h : Carries v c out) where
  -- the slot of the family is what it was
  pub carries_still : f < 16 → carry w ≡ (v.locks, v.known.lane, put away v.slots.slot f (slot_of v f)) → d ≡ c
      → Carries w d out
  carries_still near e s = record {
    stands = s ∙ h.stands;
    each = λ k. h.each k ∙ (omega (
      arith,
      out_slots-put k (slot_home (spot v.known.lane 0)) v.slots.slot f (slot_home (spot v.known.lane 0) + f)
          (slot_of v f) refl,
    ) ∙ sym (ap (out_at k) e));
    many = h.many ∙ (omega (arith, total-put lent away refl v.slots.slot f (slot_of v f)) ∙ sym (ap many_at e));
    few = subst (λ (z : Locks × ℕ × List SlotView). length z.2 ≤ 16) (sym e)
        (length-put away v.slots.slot f (slot_of v f) 16 h.few near);
    none_held = λ g p y. dite (ℕ_discrete g f)
        (λ is. h.none_held f p (sym (at-put_same away v.slots.slot f (slot_of v f))
        ∙ (sym (ap (λ (z : Locks × ℕ × List SlotView). at away z.2 f) e)
        ∙ (ap (λ k. slot_of w k) (sym is) ∙ y))))
        (λ n. h.none_held g p (sym (at-put_else away v.slots.slot f g (slot_of v f) n)
        ∙ (sym (ap (λ (z : Locks × ℕ × List SlotView). at away z.2 g) e) ∙ y)));
  }

  -- the lane had not the slot of the family, and has a borrow
  pub carries_borrowed : (lane p n : ℕ) → f < 16 → v.known.lane ≡ lane → slot_of v f ≡ away
      → carry w ≡ (v.locks, v.known.lane, put away v.slots.slot f (borrow p n))
      → CarriesAt (slot_home (spot lane f)) c d → Carries w d (slot_home (spot lane f) ∷ out)
  carries_borrowed lane p n near mine free e s =
      let i = slot_home (spot lane f) in record {
        stands = s ∙ ap (λ (z : List (ℕ × Stored S D C B)). (i, is.Nothing) ∷ z) h.stands;
        each = λ k.
            let none : out_slot k i (slot_of v f) ≡ 0 = ap (out_slot k i) free in
            omega (
              arith,
              h.each k,
              out_slots-put k (slot_home (spot v.known.lane 0)) v.slots.slot f i (borrow p n) (omega (arith, mine)),
              none,
            ) ∙ sym (ap (out_at k) e);
        many = omega (
          arith,
          h.many,
          total-put lent away refl v.slots.slot f (borrow p n),
          ap lent free,
        ) ∙ sym (ap many_at e);
        few = subst (λ (z : Locks × ℕ × List SlotView). length z.2 ≤ 16) (sym e)
            (length-put away v.slots.slot f (borrow p n) 16 h.few near);
        none_held = λ g q y. dite (ℕ_discrete g f)
            (λ is. not_held p n q (sym (at-put_same away v.slots.slot f (borrow p n))
            ∙ (sym (ap (λ (z : Locks × ℕ × List SlotView). at away z.2 f) e)
            ∙ (ap (λ k. slot_of w k) (sym is) ∙ y))))
            (λ ne. h.none_held g q (sym (at-put_else away v.slots.slot f g (borrow p n) ne)
            ∙ (sym (ap (λ (z : Locks × ℕ × List SlotView). at away z.2 g) e) ∙ y)));
      }
    where
      not_held : (p n q : ℕ) → borrow p n ≡ held q → ⊥
      not_held p n q e = cc

  -- the lane had a borrow, and has not the slot
  pub carries_home : (lane p n : ℕ) (out' : List ℕ) → f < 16 → v.known.lane ≡ lane → slot_of v f ≡ borrow p n
      → ahead (slot_home (spot lane f)) out ≡ 0
      → carry w ≡ (v.locks, v.known.lane, put away v.slots.slot f away) → d ≡ rest c → out' ≡ drop 1 out
      → Carries w d out'
  carries_home lane p n out' near mine has first e s taken =
      let i = slot_home (spot lane f) in
      let split = parts i out (carries_lent v c out h f lane p n mine has) first in record {
        stands = s ∙ (ap (λ (z : List (ℕ × Stored S D C B)). rest z) (h.stands ∙ ap nothings split)
            ∙ ap nothings (sym taken));
        each = λ k.
            let one : out_slot k i (slot_of v f) ≡ same k i = ap (out_slot k i) has in
            ap (times k) taken ∙ (omega (
              arith,
              h.each k,
              ap (times k) split,
              out_slots-put k (slot_home (spot v.known.lane 0)) v.slots.slot f i away (omega (arith, mine)),
              one,
            ) ∙ sym (ap (out_at k) e));
        many = ap length taken ∙ (omega (
          arith,
          h.many,
          ap length split,
          total-put lent away refl v.slots.slot f away,
          ap lent has,
        ) ∙ sym (ap many_at e));
        few = subst (λ (z : Locks × ℕ × List SlotView). length z.2 ≤ 16) (sym e)
            (length-put away v.slots.slot f away 16 h.few near);
        none_held = λ g q y. dite (ℕ_discrete g f)
            (λ is. not_held q (sym (at-put_same away v.slots.slot f away)
            ∙ (sym (ap (λ (z : Locks × ℕ × List SlotView). at away z.2 f) e)
            ∙ (ap (λ k. slot_of w k) (sym is) ∙ y))))
            (λ ne. h.none_held g q (sym (at-put_else away v.slots.slot f g away ne)
            ∙ (sym (ap (λ (z : Locks × ℕ × List SlotView). at away z.2 g) e) ∙ y)));
      }
    where
      not_held : (q : ℕ) → away ≡ held q → ⊥
      not_held q e = cc

      parts : (k : ℕ) (l : List ℕ) → ahead k l < length l → ahead k l ≡ 0 → l ≡ k ∷ drop 1 l
      parts k [] less z = absurd (omega arith)
      parts k (y ∷ l) less z = ap (λ x. x ∷ l) (first_is k y l z)
