-- What the steps on reference words make of a view, and what they tell: of the seat before, the word found and the seat
-- after.
use Rattle.std.specs.Prelude.{Bool, List, None, Option, Some, [], cond, false, length, suc, zero, ℕ, ◌%◌, ◌++◌, ◌<◌, ◌==◌, ◌∷◌, ◌≡◌, ◌≤◌, ◌⊎◌}
use Rattle.atomic_table.specs.Table.{Me}
use Rattle.sv_model.specs.Books.{Books}
use Rattle.sv_model.specs.Cells.{Cell}
use Rattle.sv_model.specs.Lists.{In, same, total}
use Rattle.sv_model.specs.declared.records.Memtable.{Memtable}
use Rattle.sv_rule.specs.Fits.{BodyFits}
use Rattle.sv_rule.specs.Ledger.{most_hand}
use Rattle.sv_rule.specs.Sums.{without}
use Rattle.sv_model.specs.Supers.{current_of}
use Rattle.sv_model.specs.Turns.{EndsSuper, IsNewMemtable, Opens, Turns}
use Rattle.sv_model.specs.Tasks.{Task}
use Rattle.sv_rule.specs.Table.{holds}
use Rattle.sv_rule.specs.Tasks.{lanes}
use Rattle.sv_rule.specs.Views.{Bodied, Desk, LaneView, Work, begun, idle, opens, sweeping}

-- the lane came to know bodies
abbrev pub learnt : List Bodied → LaneView → LaneView
learnt more v = record v { known = record v.known { bodies = v.known.bodies ++ more } }

-- ---- kind 9, reference add

-- a reference more in hand
abbrev pub added : Bodied → LaneView → LaneView
added x v = record v { hand = x.pack ∷ v.hand; known = record v.known { bodies = v.known.bodies ++ x ∷ [] } }

-- the lane has the DB lock and no work, and the body is that of a current
abbrev pub UnderLock : Bodied → LaneView → Type 0
UnderLock x v =
    (d : Desk) × (f : ℕ) × (v.locks.db ≡ Some d) × (d.work ≡ idle) × (f < 16) × (x.pack ≡ current_of d.books f)
    × BodyFits d.books x

-- or it has a reference with this body
abbrev pub CanAdd : Bodied → LaneView → Type 0
CanAdd x v = ((0 < holds x.pack v) × In x v.known.bodies) ⊎ UnderLock x v

-- ---- kind 10, reference sub

-- The work, once a reference of the old pack p of a sweep is dropped: one that the sweep took, or its last, which ends
-- it.
abbrev pub lowered : ℕ → Work → Work
lowered p (sweeping f old m mid zero) = cond (old == p) idle (sweeping f old m mid zero)
lowered p (sweeping f old m mid (suc t)) = cond (old == p) (sweeping f old m mid t) (sweeping f old m mid (suc t))
lowered p w = w

abbrev pub lowers : ℕ → Option Desk → Option Desk
lowers p None = None
lowers p (Some d) = Some (record { books = d.books; work = lowered p d.work; due = d.due })

-- The lane may drop a reference of p: not the new current of its work, but where it has another; and of the old pack
-- no more than the sweep took, until all lanes are passed.
abbrev pub MayDrop : ℕ → ℕ → Books → List ℕ → Work → Type 0
MayDrop p lanes b hand (opens f) = p ≡ current_of b f → 2 ≤ total (same p) hand
MayDrop p lanes b hand (begun f) = p ≡ current_of b f → 2 ≤ total (same p) hand
MayDrop p lanes b hand (sweeping f old m mid zero) = old ≡ p → (m ≡ lanes) × (mid ≡ false)
MayDrop p lanes b hand w = Unit {0}

abbrev pub MayDropAt : ℕ → ℕ → List ℕ → Option Desk → Type 0
MayDropAt p lanes hand None = Unit {0}
MayDropAt p lanes hand (Some d) = MayDrop p lanes d.books hand d.work

-- one fewer, with its cleanup owed where it was the last
abbrev pub dropped : ℕ → Bool → LaneView → LaneView
dropped p last v = record v {
  locks = record v.locks { db = lowers p v.locks.db };
  hand = without p v.hand;
  owes = cond last (p ∷ v.owes) v.owes;
}

-- the count in a reference word was 1
abbrev pub was_last : ℕ → Bool
was_last r = (r % 4294967296) == 1

-- how many references of p the sweep of the lane took and has not dropped
abbrev pub has_taken : ℕ → Work → ℕ
has_taken p (sweeping f old m mid taken) = cond (old == p) taken 0
has_taken p w = 0

abbrev pub has_taken_at : ℕ → Option Desk → ℕ
has_taken_at p None = 0
has_taken_at p (Some d) = has_taken p d.work

-- ---- kind 11, reference set

-- a new SuperVersion of family f, with the lane's reference of it
abbrev pub opened : ℕ → Bodied → Books → Task → Desk → LaneView → LaneView
opened f x b u d v = record v {
  locks = record v.locks { db = Some (record { books = b; work = opens f; due = d.due }) };
  hand = x.pack ∷ v.hand;
  known = record v.known { task = u; bodies = v.known.bodies ++ x ∷ [] };
}

-- a memtable is new, in a cell whose lock the lane has
abbrev pub NewInCell : Books → Books → LaneView → Type 0
NewInCell a b v =
    (c : ℕ) × (m : Memtable) × (found : Option Cell) × IsNewMemtable a b c m
    × (v.locks.cell ≡ Some (record { number = c; found = found }))

-- The lane has the DB lock and no work. In the books that it goes on with, the pack is new as the family's current; a
-- memtable that is new with it is in a cell whose lock the lane has.
pub record MayOpen (v : LaneView) (f : ℕ) (x : Bodied) (b : Books) (u : Task) : Type 0 where
  pub alive : v.seat.spent ≡ false
  pub desk : Desk
  pub has : v.locks.db ≡ Some desk
  pub resting : desk.work ≡ idle
  pub near : f < 16
  pub turns : Turns v.known.lane desk.books v.known.task b u []
  pub made : Opens desk.books b f x.pack
  pub memtable : (b.memtables ≡ desk.books.memtables) ⊎ NewInCell desk.books b v
  pub body : BodyFits b x
  pub room : length v.hand < most_hand

-- the cleanup of the SuperVersion of pack p is done, in these books, and these cells are to be made vacant
abbrev pub settled : ℕ → Books → Task → List ℕ → Desk → LaneView → LaneView
settled p b u cells d v = record v {
  locks = record v.locks { db = Some (record { books = b; work = d.work; due = d.due ++ cells }) };
  owes = without p v.owes;
  known = record v.known { task = u };
}

-- The lane owes the cleanup of the pack, which is done in the books that it goes on with; it has no cell's lock.
pub record MaySettle (v : LaneView) (p : ℕ) (b : Books) (u : Task) (cells : List ℕ) : Type 0 where
  pub alive : v.seat.spent ≡ false
  pub desk : Desk
  pub has : v.locks.db ≡ Some desk
  pub big : 256 ≤ p
  pub owed : 0 < total (same p) v.owes
  pub turns : Turns v.known.lane desk.books v.known.task b u []
  pub gone : EndsSuper desk.books b p cells
  pub cell : v.locks.cell ≡ None

-- ---- what the steps tell

module _ {A : Type 0} where
  abbrev pub Added : Bodied → Me A LaneView → ℕ → Me A LaneView → Type 0
  Added x m r n = n ≡ (added x m.0, m.1)

  pub record Dropped (p : ℕ) (m : Me A LaneView) (r : ℕ) (n : Me A LaneView) : Type 0 where
    pub is : n ≡ (dropped p (was_last r) m.0, m.1)
    -- no reference that the lane has twice is the last, nor one that a sweep took, nor one of a current
    pub more : 2 ≤ total (same p) m.0.hand → was_last r ≡ false
    pub swept : 0 < has_taken_at p m.0.locks.db → was_last r ≡ false
    pub current : (d : Desk) (f : ℕ) → m.0.locks.db ≡ Some d → d.work ≡ idle → f < 16 → p ≡ current_of d.books f
        → was_last r ≡ false

  abbrev pub Opened : ℕ → Bodied → Books → Task → Desk → Me A LaneView → ℕ → Me A LaneView → Type 0
  Opened f x b u d m r n = n ≡ (opened f x b u d m.0, m.1)

  abbrev pub Settled : ℕ → Books → Task → List ℕ → Desk → Me A LaneView → ℕ → Me A LaneView → Type 0
  Settled p b u cells d m r n = n ≡ (settled p b u cells d m.0, m.1)
