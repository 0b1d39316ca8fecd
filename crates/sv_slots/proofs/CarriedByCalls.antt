-- What a lane carries, along the calls.
use Rattle.std.proofs.Common.{Bool, List, None, Option, Some, [], ap, arith, drop, length, refl, subst, sym, ℕ, ◌+◌, ◌*◌, ◌<◌, ◌∙◌, ◌∷◌, ◌≡◌, ◌≤◌}
use Rattle.atomic_table.specs.Table.{rest}
use Rattle.sv_model.specs.Lists.{same, total, at}
use Rattle.sv_rule.proofs.Sums.{at-is, total-zero}
use Rattle.sv_rule.specs.Sums.{put}
use Rattle.sv_rule.specs.Sweep.{lent}
use Rattle.sv_rule.specs.Table.{slot_home, slot_of, spot}
use Rattle.sv_rule.specs.Tasks.{some_count}
use Rattle.sv_rule.specs.ReferencePlays.{lowers}
use Rattle.sv_rule.specs.Views.{CellHeld, Desk, Disk, LaneView, SlotView, away, borrow, held}
use Rattle.sv_rule.specs.declared.parts.Stored.{Stored}
use Rattle.sv_slots.specs.Carried.{Carries, ahead, nothings, out_cell, out_lock, out_slots}
use Rattle.sv_model.specs.declared.sv_refs.SvRef.{SvRef}
use Rattle.sv_rule.specs.Views.{Body}
use Rattle.sv_rule.specs.SeatPlays.{IsIdle, split_right}
use Rattle.sv_slots.specs.Borrows.{IsBack, IsMiss, IsRested}
use Rattle.sv_slots.specs.Seats.{CarriesAt, IsLane}
use Rattle.sv_slots.specs.declared.borrows.Back.{Back}
use Rattle.sv_slots.specs.declared.borrows.Back.TheVariants.{Kept, Swept}
use Rattle.sv_slots.specs.declared.borrows.Miss.{Miss}
use Rattle.sv_slots.specs.declared.borrows.Miss.TheVariants.{Empty, Stale}
use Rattle.sv_slots.proofs.CarriedBySteps.{carries_borrowed, carries_home, carries_still, carry}

-- ---- along the calls

-- what a seat's number depends on
abbrev pub seated : LaneView → Bool × ℕ
seated v = (v.seat.spent, v.known.lane)

pub lane_stands : (v w : LaneView) (lane : ℕ) → seated w ≡ seated v → IsLane v lane → IsLane w lane
lane_stands v w lane e h = record {
  alive = ap (λ (z : Bool × ℕ). z.0) e ∙ h.alive;
  lane_is = ap (λ (z : Bool × ℕ). z.1) e ∙ h.lane_is;
  low = h.low;
}

-- the slot of f is away, and nothing else of what a lane carries changed
abbrev pub Parts : ℕ → LaneView → LaneView → Type 0
Parts f old new = (seated new ≡ seated old)
    × (carry new ≡ (old.locks, old.known.lane, put away old.slots.slot f away))

pub rested_parts : {B : Type 0} (body : B → Body) (f : ℕ) (o : Option (SvRef B)) (old new : LaneView)
    → IsRested body f o old new → Parts f old new
rested_parts body f None old new h = (ap seated h.2, ap carry h.2)
rested_parts body f (Some sv) old new h = (ap seated h.view, ap carry h.view)

pub missed_parts : {P S D C B : Type 0} (body : B → Body) (f : ℕ) (e : Miss P S D C B) (old new : LaneView)
    → IsMiss body f e old new → Parts f old new
missed_parts body f Empty old new h = (ap seated h.2, ap carry h.2)
missed_parts body f (Stale sv now) old new h = (ap seated h.view, ap carry h.view)

pub back_parts : {P S D C B : Type 0} (body : B → Body) (f : ℕ) (sv : SvRef B) (b : Back P S D C B)
    (old new : LaneView) → IsBack body f sv b old new → Parts f old new
back_parts body f sv Kept old new h = (ap seated h, ap carry h)
back_parts body f sv (Swept x) old new h = (ap seated h.1, ap carry h.1)

module _ {S D C B : Type 0} (v w : LaneView) (c d : List (ℕ × Stored S D C B)) (out : List ℕ) (f g lane : ℕ)
    (h : Carries v c out) (mine : IsLane v lane) (family : g ≡ f) (near : f < 16) where
  -- the slot was away before as well
  pub carries_away : slot_of v f ≡ away → Parts g v w → d ≡ c → Carries w d out
  carries_away free e s = carries_still v w c d out g h (omega (arith, family, near))
      (e.1 ∙ (λ i. (v.locks, v.known.lane, put away v.slots.slot g (sym (ap (slot_of v) family ∙ free) i)))) s

  -- the call took the slot for a borrow
  pub carries_taken : (slot p n : ℕ) (out' : List ℕ) → slot_of v f ≡ away
      → carry w ≡ (v.locks, v.known.lane, put away v.slots.slot g (borrow p n))
      → CarriesAt (slot_home (spot lane g)) c d → slot ≡ slot_home (spot lane g) → out' ≡ slot ∷ out
      → Carries w d out'
  carries_taken slot p n out' free e s at_slot is_out = subst (λ (l : List ℕ). Carries w d l)
      (sym (is_out ∙ ap (λ z. z ∷ out) at_slot))
      (carries_borrowed v w c d out g h lane p n (omega (arith, family, near)) mine.lane_is
      (ap (slot_of v) family ∙ free) e s)

  -- the call gave a borrow's slot back
  pub carries_given : (slot p n : ℕ) (out' : List ℕ) → slot_of v f ≡ borrow p n → Parts g v w
      → slot ≡ slot_home (spot lane g) → ahead slot out ≡ 0 → d ≡ rest c → out' ≡ drop 1 out → Carries w d out'
  carries_given slot p n out' has e at_slot first s is_out =
      carries_home v w c d out g h lane p n out' (omega (arith, family, near)) mine.lane_is
      (ap (slot_of v) family ∙ has) (sym (ap (λ z. ahead z out) at_slot) ∙ first) e.1 s is_out

-- ---- along the steps on locks and references

out_lock-count : {A : Type 0} (k i : ℕ) (x : Option A) → out_lock k i x ≡ some_count x * same k i
out_lock-count k i None = omega arith
out_lock-count k i (Some x) = omega arith

-- all but the DB lock
abbrev pub beside : LaneView → Option Disk × Option CellHeld × ℕ × List SlotView
beside v = (v.locks.dir, v.locks.cell, v.known.lane, v.slots.slot)

-- the lane has as many DB locks as before
pub carries_desk : {S D C B : Type 0} (v w : LaneView) (c d : List (ℕ × Stored S D C B)) (out : List ℕ)
    → Carries v c out → some_count w.locks.db ≡ some_count v.locks.db → beside w ≡ beside v → d ≡ c
    → Carries w d out
carries_desk v w c d out h e b s = record {
  stands = s ∙ h.stands;
  each = λ k.
      let u = ap (λ z. z * same k 0) e in
      let x = out_lock-count k 0 w.locks.db in
      let y = out_lock-count k 0 v.locks.db in
      h.each k ∙ (omega (arith, u, x, y) ∙ sym (ap (λ (z : Option Disk × Option CellHeld × ℕ × List SlotView).
      out_lock k 0 w.locks.db + out_lock k 1 z.0 + out_cell k z.1 + out_slots k (slot_home (spot z.2 0)) z.3) b));
  many = h.many ∙ (omega (arith, e) ∙ sym (ap (λ (z : Option Disk × Option CellHeld × ℕ × List SlotView).
      some_count w.locks.db + some_count z.0 + some_count z.1 + total lent z.3) b));
  few = subst (λ (z : Option Disk × Option CellHeld × ℕ × List SlotView). length z.3 ≤ 16) (sym b) h.few;
  none_held = λ f p y. h.none_held f p
      (sym (ap (λ (z : Option Disk × Option CellHeld × ℕ × List SlotView). at away z.3 f) b) ∙ y);
}

pub lowers-count : (p : ℕ) (x : Option Desk) → some_count (lowers p x) ≡ some_count x
lowers-count p None = refl
lowers-count p (Some d) = refl

-- ---- seats

-- a lane that has nothing carries nothing
pub idle_none : {S D C B : Type 0} (v : LaneView) (c : List (ℕ × Stored S D C B)) (out : List ℕ) → Carries v c out
    → IsIdle v → c ≡ []
idle_none {S} {D} {C} {B} v c out h bare =
    let none : total lent v.slots.slot ≡ 0 = total-zero lent v.slots.slot
    (λ j u e. ap lent (sym (at-is away v.slots.slot j u e) ∙ bare.slots j)) in
    let empty : length out ≡ 0 = omega (
      arith,
      h.many,
      none,
      ap some_count bare.db,
      ap some_count bare.dir,
      ap some_count bare.cell,
    ) in
    h.stands ∙ none_of out empty
  where
    none_of : (l : List ℕ) → length l ≡ 0 → nothings {S = S} {D = D} {C = C} {B = B} l ≡ []
    none_of [] e = refl
    none_of (x ∷ l) e = absurd (omega (arith, e))

-- a new lane carries nothing
pub carries_new : {S D C B : Type 0} (w v : LaneView) (c : List (ℕ × Stored S D C B)) (out : List ℕ)
    → w ≡ split_right v → c ≡ [] → out ≡ [] → Carries w c out
carries_new {S} {D} {C} {B} w v c out e none empty = subst
    (λ (z : LaneView × List (ℕ × Stored S D C B) × List ℕ). Carries {S = S} {D = D} {C = C} {B = B} z.0 z.1 z.2)
    (λ k. (sym e k, sym none k, sym empty k)) (record {
      stands = refl;
      each = λ k. refl;
      many = refl;
      few = omega arith;
      none_held = λ f p y. clash p y;
    })
  where
    clash : (p : ℕ) → away ≡ held p → ⊥
    clash p y = cc
