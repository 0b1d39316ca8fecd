-- What a lane's steps on its own slots, and its loads, make of its view, and what they tell.
use Rattle.std.specs.Prelude.{◌≡◌, ◌≢◌, ◌⊎◌, ℕ, zero, suc, ◌+◌, ◌<◌, ◌≤◌, ◌==◌, ◌^◌, nat_le, Bool, true, false, cond, List, [], ◌∷◌, Option, Some, None}
use Rattle.sv_model.specs.Supers.{current_of}
use Rattle.atomic_table.specs.Table.{Me, rest}
use Rattle.sv_model.specs.declared.sv_refs.SvRef.{SvRef}
use Rattle.sv_model.specs.Lists.{In, total, same, times, at}
use Rattle.sv_rule.specs.declared.parts.Stored.{Stored}
use Rattle.sv_rule.specs.declared.parts.Stored.TheVariants as is
use Rattle.sv_rule.specs.Sums.{put, without}
use Rattle.sv_rule.specs.Views.{LaneView, Desk, SlotView, Bodied, Body, away, held, borrow, idle, opens, begun, sweeping}
use Rattle.sv_rule.specs.Table.{slot_home, spot, slot_of}
use Rattle.sv_rule.specs.ReferencePlays.{learnt}

-- the slot of family f is x, after a step on it that found the word r; what is cached there is c
abbrev pub slotted : ℕ → SlotView → ℕ → ℕ → LaneView → LaneView
slotted f x c r v = record v {
  slots = record v.slots {
    slot = put away v.slots.slot f x;
    cached = put 0 v.slots.cached f c;
    met = put 0 v.slots.met f r;
  };
}

-- k uses more, l misses, and n answers Swept
abbrev pub counted : ℕ → ℕ → ℕ → LaneView → LaneView
counted k l n v = record v {
  counts = record v.counts {
    uses = v.counts.uses + k;
    misses = v.counts.misses + l;
    swept = v.counts.swept + n;
  };
}

-- the lane has the DB lock and no work, and p is the current of f
abbrev pub IsCurrentAt : ℕ → ℕ → Option Desk → Type 0
IsCurrentAt f p None = Unit {0}
IsCurrentAt f p (Some d) = d.work ≡ idle → p ≡ current_of d.books f

-- ---- kinds 12 and 13, slot use and slot put

-- What a body with its pack tells without the books: it is of the family, its cell is one of the table's, and its pack is
-- a small word.
pub record IsShown (f : ℕ) (x : Bodied) : Type 0 where
  pub family : x.body.descriptor.family ≡ f
  pub cell : x.body.cell < 64
  pub pack : 256 ≤ x.pack
  pub small : x.pack < 2 ^ 40

module _ {S D C B : Type 0} (body : B → Body) where
  -- The lane has its slot, with what lay at it, unless a sweep has it. k uses are counted.
  pub record Used (f k : ℕ) (m : Me (Stored S D C B) LaneView) (r : ℕ) (n : Me (Stored S D C B) LaneView) : Type 0 where
    pub empty : r ≡ 0 → n ≡ (
      counted k k 0 (slotted f (held 0) 0 r m.0),
      (slot_home (spot m.0.known.lane f), is.Nothing) ∷ m.1,
    )
    pub cached : 256 ≤ r → (x : SvRef B) × (x.pack ≡ r)
        × (n ≡ (
          learnt (record { pack = r; body = body x.body.value } ∷ [])
              (counted k 0 0 (slotted f (held r) 0 r m.0)),
          (slot_home (spot m.0.known.lane f), is.Cached x) ∷ m.1,
        ))
        × IsShown f (record { pack = r; body = body x.body.value })
    pub swept : 0 < r → r < 256 → n ≡ (counted k k 0 (slotted f away 0 r m.0), m.1)
    pub marks : r < 256 → r < 3
    pub current : 256 ≤ r → IsCurrentAt f r m.0.locks.db
    pub known : 256 ≤ r → r ≡ at 0 m.0.slots.cached f
    -- while the lane has the DB lock and no work, no sweep has the slot
    pub still : (d : Desk) → m.0.locks.db ≡ Some d → d.work ≡ idle → (r ≡ 0) ⊎ (256 ≤ r)

module _ {S D C B : Type 0} where
  -- the slot is home with the reference of p, unless a sweep was there
  pub record PutBack (f p : ℕ) (m : Me (Stored S D C B) LaneView) (r : ℕ) (n : Me (Stored S D C B) LaneView) : Type
      0 where
    pub home : r ≡ 1 → n ≡ (slotted f away p r m.0, rest m.1)
    pub swept : r ≢ 1 → (r ≡ 2) × (n ≡ (counted 0 0 1 (slotted f (held p) 0 r m.0), m.1))

-- ---- kind 15, slot home, of an own slot

abbrev pub reached : ℕ → List ℕ → List ℕ
reached zero hand = hand
reached (suc p) hand = suc p ∷ hand

-- the slot is home and empty, and the lane has in hand what the slot named
abbrev pub rested : ℕ → ℕ → LaneView → LaneView
rested f p v = record v { slots = record v.slots { slot = put away v.slots.slot f away }; hand = reached p v.hand }

-- ---- kind 5, number load

-- a load that finds the pack that a slot holds makes it a borrow
abbrev pub checked : SlotView → ℕ → ℕ → SlotView
checked (held (suc p)) r floor = cond (suc p == r) (borrow (suc p) floor) (held (suc p))
checked x r floor = x

abbrev pub is_free : SlotView → Bool
is_free (held zero) = true
is_free x = false

abbrev pub is_idle : Option Desk → Bool
is_idle None = false
is_idle (Some d) = elim d.work as (λ _. Bool) [
  | idle ↦ true
  | opens _ ↦ false
  | begun _ ↦ false
  | sweeping _ _ _ _ _ ↦
      false
]

-- The load of r, by a lane that has the DB lock and no work and the pack r in hand, makes of an empty slot a borrow of
-- r.
abbrev pub lends : ℕ → ℕ → LaneView → Bool
lends f r v = cond (is_free (slot_of v f)) (cond (is_idle v.locks.db)
    (cond (nat_le 256 r) (nat_le 1 (total (same r) v.hand)) false) false) false

abbrev pub looked_by : Bool → ℕ → ℕ → LaneView → LaneView
looked_by true f r v = record v {
  slots = record v.slots {
    slot = put away v.slots.slot f (borrow r (at 0 v.known.seen f));
    looked = put 0 v.slots.looked f r;
  };
  counts = record v.counts { looks = v.counts.looks + 1 };
  hand = without r v.hand;
  loads = record { family = f; pack = r } ∷ v.loads;
}
looked_by false f r v = record v {
  slots = record v.slots {
    slot = put away v.slots.slot f (checked (slot_of v f) r (at 0 v.known.seen f));
    looked = put 0 v.slots.looked f r;
  };
  counts = record v.counts { looks = v.counts.looks + 1 };
  loads = record { family = f; pack = r } ∷ v.loads;
}

abbrev pub looked : ℕ → ℕ → LaneView → LaneView
looked f r v = looked_by (lends f r v) f r v

module _ {A : Type 0} where
  -- k misses are counted
  abbrev pub Rested : ℕ → ℕ → ℕ → Me A LaneView → ℕ → Me A LaneView → Type 0
  Rested f p k m r n = n ≡ (counted 0 k 0 (rested f p m.0), rest m.1)

  pub record Looked (f : ℕ) (m : Me A LaneView) (r : ℕ) (n : Me A LaneView) : Type 0 where
    pub is : n ≡ (looked f r m.0, m.1)
    pub current : IsCurrentAt f r m.0.locks.db
    -- no serial below one that was shown before
    pub rises : 256 ≤ r → at 0 m.0.slots.looked f ≤ r
    pub small : r < 2 ^ 40
    -- a family of which the lane has a handle shows a current, to a lane without the DB lock that did not end it
    pub there : 1 ≤ times f m.0.known.task.handles → m.0.locks.db ≡ None → (In f m.0.seat.ends → ⊥) → 256 ≤ r
