-- What the calls on references make of a view, and what they answer.
use Rattle.std.specs.Prelude.{◌≡◌, ◌≤◌, ◌<◌, ℕ, true, false, Some}
use Rattle.sv_model.specs.Lists.{same, total}
use Rattle.sv_rule.specs.ReferencePlays.{dropped, has_taken_at}
use Rattle.sv_model.specs.Supers.{current_of}
use Rattle.sv_rule.specs.Views.{Desk, LaneView, idle}
use Rattle.sv_slots.specs.declared.refs.Sub.{Sub}
use Rattle.sv_slots.specs.declared.refs.Sub.TheVariants.{Last, More}

-- the reference is gone from the hand, and its cleanup is owed where it was the last
abbrev pub IsDropped : ℕ → Sub → LaneView → LaneView → Type 0
IsDropped p More old new = new ≡ dropped p false old
IsDropped p (Last owed) old new = (owed.pack ≡ p) × (new ≡ dropped p true old)

abbrev pub IsMore : Sub → Type 0
IsMore More = Unit {0}
IsMore (Last owed) = ⊥

-- A drop is not the last where the lane has another, where its sweep took this one, and where the SuperVersion is a
-- current and the lane has the DB lock with no work.
pub record NotLast (p : ℕ) (answer : Sub) (old : LaneView) : Type 0 where
  pub other : 2 ≤ total (same p) old.hand → IsMore answer
  pub taken : 0 < has_taken_at p old.locks.db → IsMore answer
  pub current : (d : Desk) (f : ℕ) → old.locks.db ≡ Some d → d.work ≡ idle → f < 16 → p ≡ current_of d.books f
      → IsMore answer
