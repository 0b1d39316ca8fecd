-- What a lane knows and has in hand: its view.
use Rattle.std.specs.Prelude.{ℕ, Bool, List, Option}
use Rattle.sv_model.specs.declared.writes.Write.{Write}
use Rattle.sv_model.specs.declared.writes.Row.{Row}
use Rattle.sv_model.specs.declared.records.Descriptor.{Descriptor}
use Rattle.sv_model.specs.declared.records.FileMeta.{FileMeta}
use Rattle.sv_model.specs.Books.{Books}
use Rattle.sv_model.specs.Cells.{Cell}
use Rattle.sv_model.specs.Files.{Files}
use Rattle.sv_model.specs.Tasks.{Task}

-- a directory: its files, where it tells them, and its count of faults
pub record Disk : Type 0 where
  pub files : Option Files
  pub faults : ℕ

-- what was so at the opening
pub record Start : Type 0 where
  pub disk : Disk
  pub books : Books

-- ---- what a lane was handed, and what it read

-- a frozen memtable with its cell
pub record FrozenAt : Type 0 where
  pub cell : ℕ
  pub frozen : Cell

-- what the references of a SuperVersion share
pub record Body : Type 0 where
  pub descriptor : Descriptor
  -- the cell of the active memtable
  pub cell : ℕ
  pub frozen : List FrozenAt
  pub files : List FileMeta

-- a pack with the body that came with a reference of it
pub record Bodied : Type 0 where
  pub pack : ℕ
  pub body : Body

-- the rows found in a cell, and whether they are all that the memtable ever has
pub record RowsRead : Type 0 where
  pub mem : ℕ
  pub rows : List Row
  pub whole : Bool

-- what a read of a file gave
pub record FileRead : Type 0 where
  pub number : ℕ
  pub bytes : Option (List ℕ)

-- a number word that was loaded
pub record Load : Type 0 where
  pub family : ℕ
  pub pack : ℕ

-- What books must fit. Of nothing else in a view does `Fits` speak.
pub record Known : Type 0 where
  pub lane : ℕ
  pub start : Start
  -- the books that its takings of the DB lock found, and those that its givings left
  pub found : List Books
  pub left : List Books
  pub task : Task
  pub bodies : List Bodied
  pub rows : List RowsRead
  pub reads : List FileRead
  -- its accepted writes, and by family the greatest write or cut that it met
  pub mine : List Write
  pub seen : List ℕ
  -- the round word that it loaded last, and what it loaded between two loads of one round
  pub round : ℕ
  pub frames : List (List Load)

-- ---- what a lane has in hand

-- What the lane with the DB lock is at: it made a SuperVersion of a family; a number word is to change; or it sweeps
-- the slots of the family, with the old pack or 0, the number of lanes passed, whether it is in the middle of the next
-- slot, and how many references it took and has not dropped.
pub data Work : Type 0 where
  idle : Work
  opens : ℕ → Work
  begun : ℕ → Work
  sweeping : ℕ → ℕ → ℕ → Bool → ℕ → Work

pub record Desk : Type 0 where
  pub books : Books
  pub work : Work
  -- the cells of memtables that became Gone, which are still to be made vacant
  pub due : List ℕ

-- a cell lock, and what was at home
pub record CellHeld : Type 0 where
  pub number : ℕ
  pub found : Option Cell

pub record Locks : Type 0 where
  pub db : Option Desk
  pub cell : Option CellHeld
  pub dir : Option Disk

-- a lane's slot of a family: not in its hands; held with a pack or 0; or borrowed, with the pack and a floor
pub data SlotView : Type 0 where
  away : SlotView
  held : ℕ → SlotView
  borrow : ℕ → ℕ → SlotView

-- by family
pub record Slots : Type 0 where
  pub slot : List SlotView
  -- the pack of the latest put, until the next use, and the word that the latest use or put found
  pub cached : List ℕ
  pub met : List ℕ
  -- what the latest load or swap of the number word left
  pub looked : List ℕ

pub record Counts : Type 0 where
  pub looks : ℕ
  pub uses : ℕ
  pub misses : ℕ
  pub swept : ℕ
  -- takings of cell locks without the DB lock
  pub takes : ℕ
  -- by how much the directory's count rose in its hands
  pub faults : ℕ
  pub lists : ℕ
  pub adds : ℕ

-- what a seat is
pub record Seat : Type 0 where
  -- joined into another seat
  pub spent : Bool
  -- how many lanes the table was made for; how many were made so far, in the view of lane 0, and 0 in others
  pub lanes : ℕ
  pub made : ℕ
  -- the families whose current it ended though they were not retired
  pub ends : List ℕ

-- what is kept of a seat that was joined
pub record Joined : Type 0 where
  pub known : Known
  pub counts : Counts

pub record LaneView : Type 0 where
  pub seat : Seat
  pub known : Known
  pub locks : Locks
  pub slots : Slots
  pub counts : Counts
  -- the packs of its references in hand, and those whose cleanup it owes
  pub hand : List ℕ
  pub owes : List ℕ
  -- what it loaded since it loaded the round word
  pub loads : List Load
  -- what its latest listing of the directory gave
  pub names : List (List ℕ)
  pub joined : List Joined
