-- How a lane comes to have a borrow of a family's current, and what it has when it gave it back.
use Rattle.std.specs.Prelude.{List, [], false, length, ℕ, ◌+◌, ◌<◌, ◌≡◌, ◌≢◌, ◌≤◌, ◌⊎◌}
use Rattle.sv_borrows.specs.Desks.{AreAlike, at_desk}
use Rattle.sv_borrows.specs.Grown.{Cleans, Givings, Grows}
use Rattle.sv_model.specs.Books.{Books}
use Rattle.sv_model.specs.Lists.{In, at, times}
use Rattle.sv_rule.specs.Blanks.{no_locks}
use Rattle.sv_rule.specs.LockPlays.{gave_db, took_db}
use Rattle.sv_rule.specs.ReferencePlays.{added}
use Rattle.sv_rule.specs.SlotPlays.{IsShown}
use Rattle.sv_rule.specs.Sums.{without}
use Rattle.sv_rule.specs.Table.{slot_of}
use Rattle.sv_rule.specs.Views.{Bodied, LaneView, away, borrow}
use Rattle.sv_slots.specs.Borrows.{borrowed}

-- The lane has a seat, no lock, and no borrow; it ended no current; and it has not many references in hand.
pub record IsFree (v : LaneView) : Type 0 where
  pub alive : v.seat.spent ≡ false
  pub locks : v.locks ≡ no_locks
  pub ends : v.seat.ends ≡ []
  pub few : length v.hand < 65500

-- The lane is between two calls.
pub record IsAtRest (v : LaneView) : Type 0 where
  pub free : IsFree v
  pub owes : v.owes ≡ []
  pub away_all : (f : ℕ) → slot_of v f ≡ away

-- the lane has a handle of the family, whose slot it may use
abbrev pub MayLend : ℕ → LaneView → Type 0
MayLend f v = (f < 16) × (1 ≤ times f v.known.task.handles) × (slot_of v f ≡ away)

-- ---- under the DB lock

-- The lane took the DB lock and found the books a, cleaned up what it owed, and gave the books b.
abbrev pub cleaned_view : Books → Books → List ℕ → LaneView → LaneView
cleaned_view a b s v = record (at_desk b [] s (took_db a v)) { owes = [] }

abbrev pub ended_view : Books → Books → List ℕ → LaneView → LaneView
ended_view a b s v = gave_db b v.known.task (cleaned_view a b s v)

-- in between it had a borrow of the current
abbrev pub fresh_view : Books → Books → ℕ → Bodied → List ℕ → LaneView → LaneView
fresh_view a b f x s v = gave_db b v.known.task (borrowed f x.pack (added x (cleaned_view a b s v)))

abbrev pub IsLent : ℕ → Bodied → LaneView → LaneView → Type 0
IsLent f x v w = (a : Books) × (b : Books) × (s : List ℕ) × Cleans a b × AreAlike s v.known.seen × (w ≡ fresh_view a b f x s v)

abbrev pub IsNotLent : LaneView → LaneView → Type 0
IsNotLent v w = (a : Books) × (b : Books) × (s : List ℕ) × Cleans a b × AreAlike s v.known.seen × (w ≡ ended_view a b s v)

-- ---- calls

-- The lane has a borrow of this SuperVersion of the family, with the floor that it has seen.
pub record Borrows (f : ℕ) (x : Bodied) (v w : LaneView) : Type 0 where
  pub grows : Grows v.known w.known
  pub has : In x w.known.bodies
  pub shown : IsShown f x
  pub alike : (g : ℕ) → at 0 w.known.seen g ≡ at 0 v.known.seen g
  pub seat : w.seat ≡ v.seat
  pub locks : w.locks ≡ v.locks
  pub slot : slot_of w f ≡ borrow x.pack (at 0 v.known.seen f)
  pub others : (g : ℕ) → g ≢ f → slot_of w g ≡ slot_of v g
  pub looked : at 0 w.slots.looked f ≡ x.pack
  pub hand : w.hand ≡ v.hand
  pub owes : w.owes ≡ v.owes
  pub joined : w.joined ≡ v.joined
  pub givings : Givings Cleans v.known w.known
  pub looks : v.counts.looks < w.counts.looks
  pub uses : w.counts.uses ≡ v.counts.uses + 1
  pub swept : w.counts.swept ≡ v.counts.swept
  pub takes : w.counts.takes ≡ v.counts.takes
  pub faults : w.counts.faults ≡ v.counts.faults
  pub misses : v.counts.misses ≤ w.counts.misses
  -- the DB lock was taken only after a miss
  pub locked : w.counts.misses ≡ v.counts.misses → w.known.found ≡ v.known.found

-- There was no memory for one.
pub record BorrowsNone (f : ℕ) (v w : LaneView) : Type 0 where
  pub grows : Grows v.known w.known
  pub alike : (g : ℕ) → at 0 w.known.seen g ≡ at 0 v.known.seen g
  pub seat : w.seat ≡ v.seat
  pub locks : w.locks ≡ v.locks
  pub slot : slot_of w f ≡ away
  pub others : (g : ℕ) → g ≢ f → slot_of w g ≡ slot_of v g
  pub hand : w.hand ≡ v.hand
  pub owes : w.owes ≡ v.owes
  pub joined : w.joined ≡ v.joined
  pub givings : Givings Cleans v.known w.known
  pub uses : w.counts.uses ≡ v.counts.uses + 1
  pub swept : w.counts.swept ≡ v.counts.swept
  pub takes : w.counts.takes ≡ v.counts.takes
  pub faults : w.counts.faults ≡ v.counts.faults
  pub missed : w.counts.misses ≡ v.counts.misses + 1

-- the same lane without a reference of pack p
abbrev pub less : ℕ → LaneView → LaneView
less p v = record v { hand = without p v.hand }

-- A reference of pack p that the lane had in hand is dropped. The DB lock is taken only where it was the last, for the
-- cleanup.
pub record Drops (p : ℕ) (v w : LaneView) : Type 0 where
  pub grows : Grows v.known w.known
  pub alike : (g : ℕ) → at 0 w.known.seen g ≡ at 0 v.known.seen g
  pub seat : w.seat ≡ v.seat
  pub locks : w.locks ≡ v.locks
  pub slots : w.slots ≡ v.slots
  pub counts : w.counts ≡ v.counts
  pub hand : w.hand ≡ without p v.hand
  pub owes : w.owes ≡ v.owes
  pub joined : w.joined ≡ v.joined
  pub givings : Givings Cleans v.known w.known

-- The borrow of the SuperVersion of pack p is given back.
pub record GivesBack (f p : ℕ) (v w : LaneView) : Type 0 where
  pub grows : Grows v.known w.known
  pub alike : (g : ℕ) → at 0 w.known.seen g ≡ at 0 v.known.seen g
  pub seat : w.seat ≡ v.seat
  pub locks : w.locks ≡ v.locks
  pub slot : slot_of w f ≡ away
  pub others : (g : ℕ) → g ≢ f → slot_of w g ≡ slot_of v g
  pub looked : w.slots.looked ≡ v.slots.looked
  pub hand : w.hand ≡ v.hand
  pub owes : w.owes ≡ v.owes
  pub joined : w.joined ≡ v.joined
  pub givings : Givings Cleans v.known w.known
  pub looks : w.counts.looks ≡ v.counts.looks
  pub uses : w.counts.uses ≡ v.counts.uses
  pub misses : w.counts.misses ≡ v.counts.misses
  pub takes : w.counts.takes ≡ v.counts.takes
  pub faults : w.counts.faults ≡ v.counts.faults
  pub swept : v.counts.swept ≤ w.counts.swept
  -- the slot caches it, unless a sweep was there; only then the DB lock was taken
  pub cached : (at 0 w.slots.cached f ≡ p) ⊎ (v.counts.swept < w.counts.swept)
  pub locked : w.counts.swept ≡ v.counts.swept → w.known.found ≡ v.known.found
