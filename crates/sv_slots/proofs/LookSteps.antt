-- What a lane knows after a load that is no borrow.
use Rattle.std.proofs.Common.{None, Bool, Option, Some, ap, arith, cond, false, nat_le, refl, subst, suc, zero, ℕ, ◌<◌, ◌∙◌, ◌≡◌, ◌≢◌}
use Rattle.atomic_table.specs.Table.{Me}
use Rattle.sv_model.specs.Lists.{same, total}
use Rattle.sv_rule.specs.SlotPlays.{Looked, checked, is_free, is_idle, looked_by}
use Rattle.sv_rule.specs.Table.{slot_of}
use Rattle.sv_rule.specs.Views.{LaneView, SlotView, away, borrow, held}
use Rattle.sv_slots.specs.Borrows.{IsLooked, Told, word_of}

-- ---- a load by a lane that has no slot in hand

is_free_not : (x : SlotView) → ((p : ℕ) → x ≡ held p → ⊥) → is_free x ≡ false
is_free_not away h = refl
is_free_not (held zero) h = absurd (h 0 refl)
is_free_not (held (suc p)) h = refl
is_free_not (borrow p n) h = refl

pub checked_same : (x : SlotView) (r n : ℕ) → ((p : ℕ) → x ≡ held p → ⊥) → checked x r n ≡ x
checked_same away r n h = refl
checked_same (held p) r n h = absurd (h p refl)
checked_same (borrow p k) r n h = refl

pub sees : {A : Type 0} (f now : ℕ) (m n : Me A LaneView) → Looked f m now n
    → ((p : ℕ) → slot_of m.0 f ≡ held p → ⊥) → (a : Option ℕ) → now ≡ word_of a
    → ((p : ℕ) → a ≡ Some p → 0 < p) → IsLooked f a m.0 n.0
sees {A} f now m n load unheld a e pos = record {
  view = ap (λ (z : Me A LaneView). z.0) load.is
      ∙ (ap (λ (b : Bool). looked_by (cond b (cond (is_idle m.0.locks.db)
      (cond (nat_le 256 now) (nat_le 1 (total (same now) m.0.hand)) false) false) false) f now m.0)
      (is_free_not (slot_of m.0 f) unheld)
      ∙ ap (λ (z : ℕ). looked_by false f z m.0) e);
  told = subst (λ (z : ℕ). Told f z m.0) e
      (record { current = load.current; rises = load.rises; small = load.small; there = load.there });
  some = pos;
}

pub some_of : ℕ → Option ℕ
some_of zero = None
some_of (suc n) = Some (suc n)

pub some_of_is : (n : ℕ) → n ≡ word_of (some_of n)
unfolding some_of
some_of_is zero = refl
some_of_is (suc n) = refl

some_is : (a b : ℕ) → Some a ≡ Some b → a ≡ b
some_is a b e = cc

no_some : (b : ℕ) → None ≡ Some b → ⊥
no_some b e = cc

pub some_of_pos : (n p : ℕ) → some_of n ≡ Some p → 0 < p
unfolding some_of
some_of_pos zero p e = absurd (no_some p e)
some_of_pos (suc n) p e = omega (arith, some_is (suc n) p e)

pub none_pos : (p : ℕ) → None ≡ Some p → 0 < p
none_pos p e = absurd (no_some p e)

pub some_pos : (n p : ℕ) → n ≢ 0 → Some n ≡ Some p → 0 < p
some_pos n p ne e = omega (arith, ne, some_is n p e)
