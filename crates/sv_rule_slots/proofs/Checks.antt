-- What a number load makes of a slot view.
use Rattle.std.proofs.Common.{Bool, Some, ap, arith, cond, eq-eqb, eqb, false, nat_le, ne_eqb, refl, subst, suc, sym, true, zero, ℕ, ◌<◌, ◌∙◌, ◌≡◌, ◌≤◌}
use Rattle.std.proofs.lemmas.Bool.{leb-true}
use mathlib.Core.Logic.{dite}
use native.Mathlib.Decide.{ℕ_discrete}
use Rattle.sv_model.specs.Lists.{same, total}
use Rattle.sv_rule.specs.Fresh.{floor_of}
use Rattle.sv_rule.specs.SlotPlays.{checked, is_free, is_idle, lends}
use Rattle.sv_rule.specs.Sweep.{Right, lent, pack_of}
use Rattle.sv_rule.specs.Table.{names, slot_of}
use Rattle.sv_rule.specs.Views.{Desk, LaneView, SlotView, Work, away, begun, borrow, held, idle, opens, sweeping}
use Rattle.sv_rule.proofs.Basics.{by_bool, by_desk}

-- a slot view that is lent as before, with the same pack
pub right_view : {a m w n c : ℕ} {x y : SlotView} → lent y ≡ lent x → pack_of y ≡ pack_of x → Right a m w n c x
    → Right a m w n c y
right_view e d r = record {
  empty = λ z. omega (arith, r.empty z, e);
  full = λ z. omega (arith, r.full z, e);
  out = λ y z. omega (arith, r.out y z, e);
  cached = r.cached;
  fitting = r.fitting;
  used = λ z big. d
      ∙ r.used z (omega (arith, d));
  away = λ z. r.away (omega (arith, e));
  none = λ z. r.none (omega (arith, e));
}

-- a check changes no name
pub names-checked : (q r n : ℕ) (x : SlotView) → names q (checked x r n) ≡ names q x
names-checked q r n away = refl
names-checked q r n (held zero) = refl
names-checked q r n (held (suc p)) = elim (eqb (suc p) r) as
    (λ b. names q (cond b (borrow (suc p) n) (held (suc p))) ≡ same q (suc p)) [ true ↦ refl | false ↦ refl ]
names-checked q r n (borrow p m) = refl

pub pack-checked : (r n : ℕ) (x : SlotView) → pack_of (checked x r n) ≡ pack_of x
pack-checked r n away = refl
pack-checked r n (held zero) = refl
pack-checked r n (held (suc p)) = elim (eqb (suc p) r) as
    (λ b. pack_of (cond b (borrow (suc p) n) (held (suc p))) ≡ suc p) [ true ↦ refl | false ↦ refl ]
pack-checked r n (borrow p m) = refl

pub lent-checked : (r n : ℕ) (x : SlotView) → lent (checked x r n) ≡ lent x
lent-checked r n away = refl
lent-checked r n (held zero) = refl
lent-checked r n (held (suc p)) = elim (eqb (suc p) r) as (λ b. lent (cond b (borrow (suc p) n) (held (suc p))) ≡ 1)
    [ true ↦ refl | false ↦ refl ]
lent-checked r n (borrow p m) = refl

-- the floor is shown, where a slot turns into a borrow of the number r
pub floor-checked : (r n : ℕ) (x : SlotView) (end : ℕ → ℕ) → (256 ≤ r → n ≤ end r) → (0 < r → 256 ≤ r)
    → floor_of x ≤ end (pack_of x) → floor_of (checked x r n) ≤ end (pack_of (checked x r n))
floor-checked r n away end new pack old = old
floor-checked r n (held zero) end new pack old = old
floor-checked r n (held (suc p)) end new pack old = dite (ℕ_discrete (suc p) r)
    (λ e. subst (λ (b : Bool). floor_of (cond b (borrow (suc p) n) (held (suc p))) ≤ end
    (pack_of (cond b (borrow (suc p) n) (held (suc p))))) (sym (eq-eqb (suc p) r e))
    (subst (λ (z : ℕ). n ≤ end z) (sym e) (new (pack (omega arith)))))
    (λ ne. subst (λ (b : Bool). floor_of (cond b (borrow (suc p) n) (held (suc p))) ≤ end
    (pack_of (cond b (borrow (suc p) n) (held (suc p))))) (sym (ne_eqb (suc p) r ne)) (omega arith))
floor-checked r n (borrow p m) end new pack old = old

true_false : {b : Bool} → b ≡ true → b ≡ false → ⊥
true_false e d = cc

-- what a lend says
free_held : (x : SlotView) → is_free x ≡ true → x ≡ held 0
free_held away e = absurd (true_false e refl)
free_held (held zero) e = refl
free_held (held (suc p)) e = absurd (true_false e refl)
free_held (borrow p n) e = absurd (true_false e refl)

work_idle : (w : Work) → elim w as (λ _. Bool) [
  | idle ↦ true
  | opens _ ↦ false
  | begun _ ↦ false
  | sweeping _ _ _ _ _
      ↦ false
] ≡ true → w ≡ idle
work_idle idle e = refl
work_idle (opens f) e = absurd (true_false e refl)
work_idle (begun f) e = absurd (true_false e refl)
work_idle (sweeping f old m mid taken) e = absurd (true_false e refl)

pub record Lent (f r : ℕ) (v : LaneView) : Type 0 where
  pub free : slot_of v f ≡ held 0
  pub desk : Desk
  pub has : v.locks.db ≡ Some desk
  pub resting : desk.work ≡ idle
  pub pack : 256 ≤ r
  pub hand : 0 < total (same r) v.hand

pub lends_is : (f r : ℕ) (v : LaneView) → lends f r v ≡ true → Lent f r v
lends_is f r v e = by_bool (is_free (slot_of v f))
    (λ a. by_bool (is_idle v.locks.db)
    (λ b. by_bool (nat_le 256 r)
    (λ c. by_bool (nat_le 1 (total (same r) v.hand))
    (λ d. by_desk v.locks.db (λ no_lock. absurd (true_false b (ap is_idle no_lock)))
    (λ desk is. record {
      free = free_held (slot_of v f) a;
      desk = desk;
      has = is;
      resting = work_idle desk.work (sym (ap is_idle is) ∙ b);
      pack = leb-true 256 r c;
      hand = omega (arith, leb-true 1 (total (same r) v.hand) d);
    }))
    (λ d. absurd (true_false e ((λ k. cond (a k) (cond (b k) (cond (c k) (d k) false) false) false) ∙ refl))))
    (λ c. absurd (true_false e ((λ k. cond (a k) (cond (b k) (cond (c k) (nat_le 1 (total (same r) v.hand)) false)
    false) false) ∙ refl))))
    (λ b. absurd (true_false e ((λ k. cond (a k) (cond (b k)
    (cond (nat_le 256 r) (nat_le 1 (total (same r) v.hand)) false) false) false) ∙ refl))))
    (λ a. absurd (true_false e ((λ k. cond (a k) (cond (is_idle v.locks.db)
    (cond (nat_le 256 r) (nat_le 1 (total (same r) v.hand)) false) false) false) ∙ refl)))
