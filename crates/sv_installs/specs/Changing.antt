-- What a lane that has the DB lock, and no work, did of the books and of its view.
use Rattle.std.specs.Prelude.{List, [], ℕ, ◌++◌, ◌+◌, ◌≡◌, ◌≤◌}
use Rattle.sv_borrows.specs.Desks.{at_desk}
use Rattle.sv_model.specs.Books.{Books}
use Rattle.sv_model.specs.Lists.{at}
use Rattle.sv_model.specs.Turns.{IsAccounted}
use Rattle.sv_model.specs.declared.writes.Write.{Write}
use Rattle.sv_rule.specs.Views.{Bodied, LaneView}

-- The lane goes on with these books. It knows more bodies, made these writes, and began so many rounds.
abbrev pub changed : Books → List Bodied → List Write → List ℕ → List ℕ → ℕ → LaneView → LaneView
changed b more writes seen looked adds v = record (at_desk b [] seen v) {
  known = record v.known { bodies = v.known.bodies ++ more; mine = v.known.mine ++ writes; seen = seen };
  slots = record v.slots { looked = looked };
  counts = record v.counts { adds = v.counts.adds + adds };
}

-- It came from the books a to the books b, whose journal has just its writes more. Nothing else changed.
pub record Changes (a b : Books) (v w : LaneView) : Type 0 where
  pub own : IsAccounted v.known.lane b v.known.task
  pub more : List Bodied
  pub writes : List Write
  pub seen : List ℕ
  pub looked : List ℕ
  pub adds : ℕ
  pub journal : b.journal ≡ a.journal ++ writes
  pub rises : (f : ℕ) → at 0 v.known.seen f ≤ at 0 seen f
  pub is : w ≡ changed b more writes seen looked adds v
