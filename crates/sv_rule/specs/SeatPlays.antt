-- What the making and the joining of a seat make of views, and what they need.
use Rattle.std.specs.Prelude.{◌≡◌, ℕ, ◌+◌, ◌<◌, false, [], ◌∷◌, ◌++◌, None, length}
use Rattle.sv_model.specs.Lists.{at}
use Rattle.sv_rule.specs.Table.{slot_of}
use Rattle.sv_rule.specs.Views.{LaneView, Joined, away}
use Rattle.sv_rule.specs.Blanks.{new_view, no_locks}

-- ---- a seat is made

-- the first seat made one more
abbrev pub split_left : LaneView → LaneView
split_left v = record v { seat = record v.seat { made = v.seat.made + 1 } }

-- the next lane's
abbrev pub split_right : LaneView → LaneView
split_right v = new_view v.seat.made v.seat.lanes 0 v.known.start

pub record MaySplit (v : LaneView) : Type 0 where
  pub alive : v.seat.spent ≡ false
  pub first : 0 < v.seat.made
  pub more : v.seat.made < v.seat.lanes

-- ---- a seat is joined into another

abbrev pub kept_of : LaneView → Joined
kept_of w = record { known = w.known; counts = w.counts }

abbrev pub gathered : LaneView → LaneView → LaneView
gathered v w = record v { joined = v.joined ++ kept_of w ∷ w.joined }

-- the lane has nothing in hand that the table or the books know, and no handle but that of `default`
pub record IsIdle (w : LaneView) : Type 0 where
  pub alive : w.seat.spent ≡ false
  pub db : w.locks.db ≡ None
  pub cell : w.locks.cell ≡ None
  pub dir : w.locks.dir ≡ None
  pub slots : (f : ℕ) → slot_of w f ≡ away
  pub cached : (f : ℕ) → at 0 w.slots.cached f ≡ 0
  pub hand : w.hand ≡ []
  pub owes : w.owes ≡ []
  pub holds : w.known.task.holds ≡ 0
  pub handles : w.known.task.handles ≡ 0 ∷ []
  pub output : w.known.task.output ≡ None
  pub job : w.known.task.job ≡ None

-- ---- the end

-- the first seat, into which all others were joined
pub record IsLast (v : LaneView) : Type 0 where
  pub alive : v.seat.spent ≡ false
  pub locks : v.locks ≡ no_locks
  pub first : 0 < v.seat.made
  pub all : length v.joined + 1 ≡ v.seat.made
