-- A lane that sweeps the slots of a family passes them one after the other.
use Rattle.std.proofs.Common.{[], ap, arith, ℕ, ◌+◌, ◌<◌, ◌∷◌, ◌≡◌, ◌≤◌}
use Rattle.std.specs.Prelude.{false, length}
use Rattle.sv_installs.specs.Sweeping.{IsTurn}
use Rattle.sv_model.specs.Lists.{same, total}
use Rattle.sv_rule.specs.Blanks.{desk_of, old_in, taken_in}
use Rattle.sv_rule.specs.ReferencePlays.{MayDropAt, dropped, learnt}
use Rattle.sv_rule.specs.SweepPlays.{Sweeps}
use Rattle.sv_rule.specs.Views.{Bodied, LaneView}
use Rattle.sv_slots.proofs.InstallSweeps.{passes-none, passes-some, passing, taken-held, taken-may, taken-more}
use Rattle.sv_slots.specs.Installs.{IsPassed, swept_on}
use Rattle.sv_slots.specs.References.{IsMore, NotLast}
use Rattle.sv_slots.specs.declared.refs.Sub.{Sub}

module _ (f l : ℕ) (v : LaneView) (t : IsTurn f l v) where
  left-of : (r : ℕ) (s : LaneView) → IsPassed f r s l v → l < s.seat.lanes
  left-of r s at = omega (arith, t.left, ap (λ (z : LaneView). z.seat.lanes) at.1)

  left : l < t.from.seat.lanes
  left = left-of t.old t.from t.passed

  pub turn-sweeps : Sweeps v f l false
  turn-sweeps = passing f t.old t.from l v t.passed left

  -- the slot cached nothing
  pub turn-none : (w : LaneView) → w ≡ swept_on f l (taken_in (desk_of v).work) v.hand v → (r : ℕ) (s : LaneView)
      → IsPassed f r s l v → IsPassed f r s (l + 1) w
  turn-none w e r s at = passes-none f r s l v at (left-of r s at) w e

  -- it cached the SuperVersion before
  module _ (p : ℕ) (x : Bodied) (w : LaneView) (big : 256 ≤ p) (old : p ≡ old_in (desk_of v).work)
      (is : w ≡ learnt (x ∷ []) (swept_on f l (taken_in (desk_of v).work + 1) (p ∷ v.hand) v)) where
    pub turn-held : 0 < total (same p) w.hand
    turn-held = taken-held f t.old t.from l v t.passed left p x w big old is

    pub turn-may : MayDropAt p w.seat.lanes w.hand w.locks.db
    turn-may = taken-may f t.old t.from l v t.passed left p x w big old is

    pub turn-more : (answer : Sub) → NotLast p answer w → IsMore answer
    turn-more answer n = taken-more f t.old t.from l v t.passed left p x w big old is answer n

    pub turn-some : (u : LaneView) → u ≡ dropped p false w → (r : ℕ) (s : LaneView) → IsPassed f r s l v
        → IsPassed f r s (l + 1) u
    turn-some u e r s at = passes-some f r s l v at (left-of r s at) p x w big old is u e

-- ---- the loop

-- from the view v on, which began a sweep, l lanes are passed
abbrev pub PassesTo : ℕ → LaneView → ℕ → LaneView → Type 0
PassesTo f v l u = (r : ℕ) (s : LaneView) → IsPassed f r s 0 v → IsPassed f r s l u

pub next-turn : (f l : ℕ) (v u : LaneView) → IsTurn f 0 v → PassesTo f v l u → l < v.seat.lanes → IsTurn f l u
next-turn f l v u t go more =
    let at = go t.old t.from t.passed in
    record {
      old = t.old;
      from = t.from;
      passed = at;
      left = omega (arith, more, ap (λ (z : LaneView). z.seat.lanes) at.1, ap (λ (z : LaneView). z.seat.lanes) t.passed.1);
      few = omega (arith, t.few, ap (λ (z : LaneView). length z.hand) at.1, ap (λ (z : LaneView). length z.hand) t.passed.1);
    }

pub passes-none-yet : (f : ℕ) (v : LaneView) → PassesTo f v 0 v
passes-none-yet f v r s at = at

pub passes-one-more : (f l : ℕ) (v u w : LaneView) → PassesTo f v l u
    → ((r : ℕ) (s : LaneView) → IsPassed f r s l u → IsPassed f r s (l + 1) w) → PassesTo f v (l + 1) w
passes-one-more f l v u w go one r s at = one r s (go r s at)
