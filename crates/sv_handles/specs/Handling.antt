-- What a lane of many answers that opens or drops a family, and what it leaves.
use Rattle.std.specs.Prelude.{IfOk, List, OnErr, Result, Some, [], slice_get, ℕ, ◌++◌, ◌<◌, ◌∷◌, ◌≡◌}
use Rattle.sv_family.specs.Refused.{drop_refusal, open_refusal}
use Rattle.sv_laws.specs.Families.{IsDropped, IsOpened}
use Rattle.sv_model.specs.Books.{Books}
use Rattle.sv_model.specs.Lists.{times}
use Rattle.sv_model.specs.Refusals.{RefusesExactly}
use Rattle.sv_model.specs.Tasks.{Task}
use Rattle.sv_model.specs.declared.limits.TheConstants.{MAX_FAMILIES}
use Rattle.sv_model.specs.declared.records.Family.{Family}
use Rattle.sv_model.specs.declared.refusals.Refusal.{Refusal}
use Rattle.sv_rule.specs.Fits.{Fits}
use Rattle.sv_rule.specs.Views.{LaneView}
use Rattle.sv_turns.specs.Owned.{opens_family}

-- The lane took the DB lock once, found the books a, and left the books b, which have this of its own.
abbrev pub turned_view : Books → Books → Task → LaneView → LaneView
turned_view a b t v = record v {
  known = record v.known { found = v.known.found ++ a ∷ []; left = v.known.left ++ b ∷ []; task = t };
}

-- ---- an open

-- The family has the name, and is not dropped. The lane, which had no handle of it, has one in the books b, and nothing
-- else of them changed.
pub record GivesHandle (l : ℕ) (name : List ℕ) (a b : Books) (v w : LaneView) (f : ℕ) : Type 0 where
  pub near : f < MAX_FAMILIES
  pub opened : IsOpened a b f l
  pub name_is : opened.it.name ≡ name
  pub none : times f v.known.task.handles ≡ 0
  -- of no family of this name it had one
  pub alone : (g : ℕ) (x : Family) → slice_get a.families g ≡ Some x → x.name ≡ name → times g v.known.task.handles ≡ 0
  pub is : w ≡ turned_view a b (opens_family f v.known.task) v

-- A refusal is exactly that of the books found, and leaves them.
pub record OpensFamily (l : ℕ) (name : List ℕ) (r : Result ℕ Refusal) (v w : LaneView) : Type 0 where
  pub found : Books
  pub left : Books
  pub fits : Fits found v.known
  pub refused : RefusesExactly (open_refusal found.families l name) r
  pub ok : IfOk r (GivesHandle l name found left v w)
  pub err : OnErr r ((left ≡ found) × (w ≡ turned_view found found v.known.task v))

-- ---- a drop

-- The family of which the lane has a handle by the name is dropped in the books b, and nothing else of them changed.
pub record DropsOwn (l : ℕ) (name : List ℕ) (a b : Books) (f : ℕ) : Type 0 where
  pub dropped : IsDropped a b f l
  pub name_is : dropped.it.name ≡ name

-- A refusal is exactly that of the books found, and leaves them. What the lane has of its own is as it was.
pub record DropsFamily (l : ℕ) (name : List ℕ) (r : Result ℕ Refusal) (v w : LaneView) : Type 0 where
  pub found : Books
  pub left : Books
  pub refused : RefusesExactly (drop_refusal found.families l name) r
  pub ok : IfOk r (DropsOwn l name found left)
  pub err : OnErr r (left ≡ found)
  pub is : w ≡ turned_view found left v.known.task v
