-- A lane that has the DB lock and no work under way, and its cleanups there.
use Rattle.std.specs.Prelude.{List, None, Some, [], false, ℕ, ◌∷◌, ◌≡◌, ◌≤◌}
use Rattle.sv_borrows.specs.Grown.{Cleans}
use Rattle.sv_model.specs.Books.{Books}
use Rattle.sv_model.specs.Lists.{at}
use Rattle.sv_model.specs.Turns.{IsAccounted}
use Rattle.sv_rule.specs.Blanks.{desk_of}
use Rattle.sv_rule.specs.LockPlays.{without_cell}
use Rattle.sv_rule.specs.Views.{LaneView, idle}
use Rattle.sv_slots.specs.declared.refs.Sub.{Sub}
use Rattle.sv_slots.specs.declared.refs.Sub.TheVariants.{Last, More}
use Rattle.sv_state.specs.Gone.{IsFree}

-- The lane has the DB lock with these books and no work, and these cells to make vacant. It has no cell's lock. The books
-- have of its own what it has.
pub record IsAtDesk (b : Books) (due : List ℕ) (v : LaneView) : Type 0 where
  pub alive : v.seat.spent ≡ false
  pub db : v.locks.db ≡ Some (record { books = b; work = idle; due = due })
  pub cell : v.locks.cell ≡ None
  pub own : IsAccounted v.known.lane b v.known.task

-- what is due at the desk of the lane
abbrev pub due_at : LaneView → List ℕ
due_at v = (desk_of v).due

-- the same numbers, by family
abbrev pub AreAlike : List ℕ → List ℕ → Type 0
AreAlike s t = (f : ℕ) → at 0 s f ≡ at 0 t f

-- The lane goes on with these books, and with these cells due.
abbrev pub at_desk : Books → List ℕ → List ℕ → LaneView → LaneView
at_desk b due s v = record v {
  locks = record v.locks { db = Some (record { books = b; work = idle; due = due }) };
  known = record v.known { seen = s };
}

-- nothing else changed
abbrev pub GoesOn : Books → List ℕ → LaneView → LaneView → Type 0
GoesOn b due v w = (s : List ℕ) × AreAlike s v.known.seen × (w ≡ at_desk b due s v)

-- the cell is not due any more
abbrev pub Vacates : Books → ℕ → LaneView → LaneView → Type 0
Vacates b c v w = GoesOn b (without_cell c (due_at v)) v w

-- ---- cleanups

-- what a lane owes after a drop that left this
abbrev pub owed_of : Sub → List ℕ
owed_of More = []
owed_of (Last owed) = owed.pack ∷ []

-- what is owed may go: it is big enough for a pack, Live, and current of no family
abbrev pub MayGo : Books → Sub → Type 0
MayGo b More = Unit {0}
MayGo b (Last owed) = (256 ≤ owed.pack) × IsFree b owed.pack

-- Nothing is owed or due any more.
abbrev pub IsCleanedUp : Books → Books → LaneView → LaneView → Type 0
IsCleanedUp a b v w =
    Cleans a b × IsAccounted v.known.lane b v.known.task
    × ((s : List ℕ) × AreAlike s v.known.seen × (w ≡ record (at_desk b [] s v) { owes = [] }))
