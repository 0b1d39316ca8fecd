-- A lane that has the DB lock made a SuperVersion current, sweeps the slots of its family, and drops the one before.
use Rattle.std.specs.Prelude.{List, None, Some, [], false, length, ℕ, ◌<◌, ◌∷◌, ◌≡◌, ◌≤◌}
use Rattle.sv_borrows.specs.Desks.{AreAlike, at_desk}
use Rattle.sv_borrows.specs.Grown.{Cleans}
use Rattle.sv_model.specs.Books.{Books}
use Rattle.sv_model.specs.Turns.{IsAccounted}
use Rattle.sv_rule.specs.ReferencePlays.{learnt}
use Rattle.sv_rule.specs.Sums.{without}
use Rattle.sv_rule.specs.Views.{Bodied, LaneView, sweeping}
use Rattle.sv_slots.specs.declared.table.TheConstants.{MAX_HAND}
use Rattle.sv_slots.specs.Installs.{IsPassed}
use Rattle.sv_state.specs.Gone.{IsFree}

-- The slot of the lane l is the next one of the family to be swept.
pub record IsTurn (f l : ℕ) (v : LaneView) : Type 0 where
  pub old : ℕ
  pub from : LaneView
  pub passed : IsPassed f old from l v
  pub left : l < v.seat.lanes
  pub few : length v.hand < MAX_HAND

-- The lane is about to sweep the slots of the family, and has these books. It has a reference of the SuperVersion that
-- was current before, of pack r, which is Live and current of no family any more.
pub record BeginsSweep (b : Books) (f r : ℕ) (v : LaneView) : Type 0 where
  pub alive : v.seat.spent ≡ false
  pub db : v.locks.db ≡ Some (record { books = b; work = sweeping f r 0 false 0; due = [] })
  pub cell : v.locks.cell ≡ None
  pub own : IsAccounted v.known.lane b v.known.task
  pub owes : v.owes ≡ []
  pub hand : List ℕ
  pub has : v.hand ≡ r ∷ hand
  pub few : length v.hand < MAX_HAND
  pub big : 256 ≤ r
  pub goes : IsFree b r

-- The lane knows these bodies more, does not have the reference of pack p any more, and has no work; nothing is owed.
abbrev pub reclaimed : ℕ → Books → List Bodied → List ℕ → LaneView → LaneView
reclaimed p b more s v = record (at_desk b [] s (learnt more v)) { hand = without p v.hand; owes = [] }

-- All slots are swept, and the reference of the SuperVersion before, of pack p, is dropped.
abbrev pub IsReclaimed : ℕ → Books → Books → LaneView → LaneView → Type 0
IsReclaimed p a b v w =
    Cleans a b × IsAccounted v.known.lane b v.known.task
    × ((more : List Bodied) × (s : List ℕ) × AreAlike s v.known.seen × (w ≡ reclaimed p b more s v))
