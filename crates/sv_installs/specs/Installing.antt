-- What an install needs and leaves.
use Rattle.std.specs.Prelude.{List, None, Option, Some, [], length, ℕ, ◌++◌, ◌+◌, ◌<◌, ◌∷◌, ◌≡◌, ◌≤◌}
use Rattle.sv_borrows.specs.Desks.{AreAlike, IsAtDesk, at_desk}
use Rattle.sv_borrows.specs.Grown.{Cleans}
use Rattle.sv_model.specs.Books.{Books}
use Rattle.sv_model.specs.Supers.{current_of}
use Rattle.sv_model.specs.Turns.{IsAccounted, IsNewMemtable, Opens, Turns}
use Rattle.sv_model.specs.declared.records.Memtable.{Memtable}
use Rattle.sv_rule.specs.Numbers.{NumberOk}
use Rattle.sv_rule.specs.Sums.{put}
use Rattle.sv_rule.specs.Views.{Bodied, LaneView, begun}
use Rattle.sv_slots.specs.Installs.{installed}
use Rattle.sv_slots.specs.declared.table.TheConstants.{MAX_HAND}

-- no memtable is new, or one that is to be in this cell
abbrev pub IsNewIn : Books → Books → Option ℕ → Type 0
IsNewIn a b None = b.memtables ≡ a.memtables
IsNewIn a b (Some c) = (m : Memtable) × IsNewMemtable a b c m

-- The lane has the DB lock, and no work. In the books b, which the state has now, the family has a current that is new,
-- over a memtable that is new in this cell, if any; the current before is of pack p.
pub record MayInstall (b : Books) (f p : ℕ) (cell : Option ℕ) (v : LaneView) : Type 0 where
  pub found : Books
  pub desk : IsAtDesk found [] v
  pub near : f < 16
  pub turns : Turns v.known.lane found v.known.task b v.known.task []
  pub opens : Opens found b f (current_of b f)
  pub memtable : IsNewIn found b cell
  pub was : p ≡ current_of found f
  pub big : 256 ≤ p
  pub owes : v.owes ≡ []
  pub room : length v.hand + 1 < MAX_HAND

-- The SuperVersion of x is current in the books b, and the sweep of the family's slots begins; the number word was r.
abbrev pub IsInstalled : ℕ → Bodied → Books → LaneView → LaneView → Type 0
IsInstalled f x b v w = (r : ℕ) × NumberOk b (begun f) f r × (w ≡ installed f x b v.known.task [] r v)

-- The lane, which has no work, goes on with these books, in which the SuperVersion of x is current.
abbrev pub renewed : ℕ → Bodied → Books → List Bodied → List ℕ → LaneView → LaneView
renewed f x b more s v = record (at_desk b [] s v) {
  known = record v.known { bodies = v.known.bodies ++ x ∷ more; seen = s };
  slots = record v.slots { looked = put 0 v.slots.looked f x.pack };
  counts = record v.counts { adds = v.counts.adds + 1 };
}

-- The SuperVersion that the books b have as the family's current is current, all slots are swept, and the one before is
-- dropped, and cleaned up where that was its last reference. Nothing else changed.
pub record Installs (f : ℕ) (b c : Books) (v w : LaneView) : Type 0 where
  pub new : Bodied
  pub new_is : new.pack ≡ current_of b f
  pub cleans : Cleans b c
  pub own : IsAccounted v.known.lane c v.known.task
  pub more : List Bodied
  pub seen : List ℕ
  pub alike : AreAlike seen v.known.seen
  pub is : w ≡ renewed f new c more seen v
