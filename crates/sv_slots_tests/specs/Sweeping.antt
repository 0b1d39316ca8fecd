-- A lane that changes the current of family 0, and what it has when it gives the DB lock back.
use Rattle.std.specs.Prelude.{◌≡◌, ◌<◌, ◌∷◌, [], ℕ, false, None, Some}
use Rattle.sv_model.specs.Books.{Books}
use Rattle.sv_model.specs.Lists.{same, total}
use Rattle.sv_model.specs.Turns.{Turns}
use Rattle.sv_rule.specs.Views.{LaneView, sweeping}
use Rattle.sv_slots.specs.declared.refs.Owed.{Owed}
use Rattle.sv_slots.specs.declared.refs.Sub.{Sub}
use Rattle.sv_slots.specs.declared.refs.Sub.TheVariants.{Last, More}
use Rattle.sv_slots_tests.specs.Stages.{old_pack}

-- The lane has the DB lock, swept the slots of so many lanes, and has the reference of the old SuperVersion in hand.
pub record IsSweeping (b : Books) (l : ℕ) (v : LaneView) : Type 0 where
  pub alive : v.seat.spent ≡ false
  pub db : v.locks.db ≡ Some (record { books = b; work = sweeping 0 old_pack l false 0; due = [] })
  pub cell : v.locks.cell ≡ None
  pub hand : v.hand ≡ old_pack ∷ []
  -- the lane may leave the books as they are
  pub stays : Turns v.known.lane b v.known.task b v.known.task []

-- the lane has no lock of the state and of a cell
pub record IsFree (v : LaneView) : Type 0 where
  pub alive : v.seat.spent ≡ false
  pub db : v.locks.db ≡ None
  pub cell : v.locks.cell ≡ None

-- the lane is free, and owes the cleanup
pub record IsOwing (owed : Owed) (v : LaneView) : Type 0 where
  pub free : IsFree v
  pub pack : owed.pack ≡ old_pack
  pub owes : 0 < total (same old_pack) v.owes

-- what is left of the old SuperVersion
abbrev pub IsLeft : Sub → LaneView → Type 0
IsLeft More v = IsFree v
IsLeft (Last owed) v = IsOwing owed v
