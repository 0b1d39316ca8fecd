-- A put while its lane has the DB lock.
use Rattle.std.specs.Prelude.{List, Result, ℕ}
use Rattle.sv_installs.specs.Changing.{Changes}
use Rattle.sv_model.specs.Books.{Books}
use Rattle.sv_model.specs.declared.refusals.Refusal.{Refusal}
use Rattle.sv_model.specs.declared.writes.Row.{Row}
use Rattle.sv_puts.specs.Putting.{Answers, HasMet}
use Rattle.sv_rule.specs.Views.{LaneView}

-- The books b are those that it leaves, and the lane changed as it says.
pub record PutsLocked (l : ℕ) (name : List ℕ) (row : Row) (r : Result ℕ Refusal) (a b : Books) (v w : LaneView) : Type
    0 where
  pub answers : Answers l name row r a b
  pub changes : Changes a b v w
  pub met : HasMet l name r a w.known.seen
