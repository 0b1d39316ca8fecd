-- What a get answers, and what it leaves.
use Rattle.std.specs.Prelude.{List, ℕ, ◌*◌, ◌+◌, ◌/◌, ◌<◌, ◌∷◌, ◌≡◌, ◌≢◌, ◌≤◌, ◌⊎◌}
use Rattle.sv_borrows.specs.Grown.{Cleans, Givings, Grows}
use Rattle.sv_borrows.specs.Lending.{less}
use Rattle.sv_gets.specs.Reading.{FindsAt, Reaches}
use Rattle.sv_gets.specs.declared.gets.Got.{Got}
use Rattle.sv_model.specs.Lists.{In, at}
use Rattle.sv_rule.specs.SlotPlays.{IsShown}
use Rattle.sv_rule.specs.Table.{slot_of}
use Rattle.sv_rule.specs.Views.{Bodied, LaneView, away}

-- What a read of the current leaves, whatever it answers: the lane knows more, and has what it had. Of the books it
-- changed nothing, but that SuperVersions whose last reference it had went.
pub record Goes (f : ℕ) (v w : LaneView) : Type 0 where
  pub grows : Grows v.known w.known
  pub seat : w.seat ≡ v.seat
  pub locks : w.locks ≡ v.locks
  pub slot : slot_of w f ≡ away
  pub others : (g : ℕ) → g ≢ f → slot_of w g ≡ slot_of v g
  pub hand : w.hand ≡ v.hand
  pub owes : w.owes ≡ v.owes
  pub joined : w.joined ≡ v.joined
  pub givings : Givings Cleans v.known w.known
  -- one use of the slot, and a cell's lock at most once
  pub uses : w.counts.uses ≡ v.counts.uses + 1
  pub takes : w.counts.takes ≤ v.counts.takes + 1
  pub misses : v.counts.misses ≤ w.counts.misses
  pub swept : v.counts.swept ≤ w.counts.swept
  pub faults : v.counts.faults ≤ w.counts.faults
  -- the DB lock was taken only after a miss or a sweep
  pub locked : w.counts.misses ≡ v.counts.misses → w.counts.swept ≡ v.counts.swept → w.known.found ≡ v.known.found

-- What a get of the family answers: in all books that fit what the lane knows then, the SuperVersion of this serial was
-- read, and the value is that of the key after so many writes of the family.
pub record Gets (f : ℕ) (key : List ℕ) (got : Got) (v w : LaneView) : Type 0 where
  pub finds : FindsAt f key got.value got.cut got.sv w
  -- no write that the lane had met before is left out
  pub least : at 0 v.known.seen f ≤ got.cut
  pub seen : got.cut ≤ at 0 w.known.seen f
  -- the SuperVersion was the family's current at the last load of its number word, which was in this call
  pub looks : v.counts.looks < w.counts.looks
  pub place : ℕ
  pub shown : at 0 w.slots.looked f ≡ got.sv * 256 + place
  pub within : place < 256
  -- one cell's lock was taken
  pub takes : w.counts.takes ≡ v.counts.takes + 1
  -- the slot caches it, unless a sweep was there
  pub cached : (at 0 w.slots.cached f ≡ at 0 w.slots.looked f) ⊎ (v.counts.swept < w.counts.swept)

-- ---- pins

-- The lane has one more reference in hand, of the SuperVersion of x, which was the family's current at the last load of
-- its number word, in this call. But for that it is as a get leaves it; no cell's lock was taken.
pub record Pins (f : ℕ) (x : Bodied) (v w : LaneView) : Type 0 where
  pub hand : w.hand ≡ x.pack ∷ v.hand
  pub goes : Goes f v (less x.pack w)
  pub has : In x w.known.bodies
  pub shown : IsShown f x
  pub looks : v.counts.looks < w.counts.looks
  pub looked : at 0 w.slots.looked f ≡ x.pack
  pub takes : w.counts.takes ≡ v.counts.takes
  pub cached : (at 0 w.slots.cached f ≡ x.pack) ⊎ (v.counts.swept < w.counts.swept)

-- There was no memory for one, and no cell's lock was taken.
pub record PinsNone (f : ℕ) (v w : LaneView) : Type 0 where
  pub goes : Goes f v w
  pub takes : w.counts.takes ≡ v.counts.takes

-- What a get through the SuperVersion of x answers, of whose family it is.
pub record GetsThrough (x : Bodied) (key : List ℕ) (got : Got) (v w : LaneView) : Type 0 where
  pub finds : FindsAt x.body.descriptor.family key got.value got.cut got.sv w
  pub sv_is : got.sv ≡ x.pack / 256
  pub reaches : Reaches x.body.descriptor.family x.pack got.cut v w
  pub seen : got.cut ≤ at 0 w.known.seen x.body.descriptor.family
