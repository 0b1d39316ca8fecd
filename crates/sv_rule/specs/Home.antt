-- What is at home, and which view holds what is out: the locks of the state and of the directory, and the slots of
-- lanes. And who has a seat.
use Rattle.std.specs.Prelude.{◌≡◌, ℕ, ◌<◌, ◌≤◌, true, false, List, Some, length}
use mathlib.Core.Option as maybe
use Rattle.atomic_table.specs.Table.{State}
use Rattle.sv_model.specs.Lists.{total, Every}
use Rattle.sv_model.specs.Books.{Books}
use Rattle.sv_model.specs.declared.sv_refs.SvRef.{SvRef}
use Rattle.sv_rule.specs.declared.parts.Stored.{Stored}
use Rattle.sv_rule.specs.declared.parts.Stored.TheVariants as is
use Rattle.sv_rule.specs.Views.{LaneView, Desk, Work, Disk, idle}
use Rattle.sv_rule.specs.Sums.{Each}
use Rattle.sv_rule.specs.Blanks.{nobody}
use Rattle.sv_rule.specs.Tasks.{has_db, has_dir, is_spent, joined_count, lanes}
use Rattle.sv_rule.specs.Table.{Box, word, home, slot, slot_home}

-- ---- seats

-- Sizes, and seats: each lane stands at its number, lane 0 makes the others, and none has more than one seat.
pub record Seats {S : Type 0} (s : State S LaneView) : Type 0 where
  pub words : length s.words ≡ 851
  pub homes : length s.homes ≡ 578
  -- the number of lanes for which the table was made
  pub given : ℕ
  pub few : given ≤ 32
  pub views : length s.views ≤ given
  pub told : Each (λ j v. v.seat.spent ≡ false → v.seat.lanes ≡ given) s.views
  pub made : Each (λ j v. 0 < v.seat.made → (j ≡ 0) × (v.seat.made ≡ length s.views)) s.views
  pub ordered : Each (λ j v. v.seat.spent ≡ false → v.known.lane ≡ j) s.views
  pub slots : Each (λ j v. length v.slots.slot ≤ 16) s.views
  -- a seat that was joined has nothing
  pub spent : Each (λ j v. v.seat.spent ≡ true → v ≡ nobody) s.views
  -- each seat that was joined stands in one view
  pub joined : total is_spent s.views ≡ total joined_count s.views
  pub below : Each (λ j v. Every (λ o. o.known.lane < length s.views) v.joined) s.views
  pub once : (l : ℕ) → total (lanes l) s.views ≤ 1

-- ---- locks

-- A lock word, the slot beside it, and how often the views have the lock. At home is a value of which P holds.
pub record Lock {A : Type 0} (P : A → Type 0) (has : LaneView → ℕ) (w : ℕ) (h : Box A) (vs : List LaneView) : Type
    0 where
  pub bit : total has vs ≡ w
  pub one : w ≤ 1
  pub home : w ≡ 0 → (x : A) × (h ≡ maybe.some (maybe.some x)) × P x
  pub out : w ≡ 1 → h ≡ maybe.some maybe.none

module _ {S D C B : Type 0} where
  -- a state of these books, at home only while no work is under way
  abbrev pub IsState : (S → Books) → Books → Work → Stored S D C B → Type 0
  IsState books b work x = (y : S) × (x ≡ is.State y) × (books y ≡ b) × (work ≡ idle)

  abbrev pub IsDir : (D → Disk) → Disk → Stored S D C B → Type 0
  IsDir disk d x = (y : D) × (x ≡ is.Dir y) × (disk y ≡ d)

  -- a slot word and what lies beside it
  pub record SlotOk (w : ℕ) (h : Box (Stored S D C B)) : Type 0 where
    pub empty : w ≡ 0 → h ≡ maybe.some (maybe.some is.Nothing)
    pub out : 0 < w → w < 256 → h ≡ maybe.some maybe.none
    pub cached : 256 ≤ w → (r : SvRef B) × (h ≡ maybe.some (maybe.some (is.Cached r))) × (r.pack ≡ w)
    pub marks : w < 256 → w < 3

  pub record Home (books : S → Books) (disk : D → Disk) (b : Books) (work : Work) (d : Disk)
      (s : State (Stored S D C B) LaneView) : Type 0 where
    pub seats : Seats s
    pub db : Lock (IsState books b work) has_db (word s 0) (home s 0) s.views
    -- whoever has the state has these books, and is at this work
    pub desks : Each (λ j v. (k : Desk) → v.locks.db ≡ Some k → (k.books ≡ b) × (k.work ≡ work)) s.views
    pub dir : Lock (IsDir disk d) has_dir (word s 1) (home s 1) s.views
    pub disks : Each (λ j v. (k : Disk) → v.locks.dir ≡ Some k → k ≡ d) s.views
    pub slots : (i : ℕ) → i < 512 → SlotOk (slot s i) (home s (slot_home i))
