-- What the parts of a read make of a lane's view, and what they say of all books that fit it.
use Rattle.std.specs.Prelude.{Bool, List, None, Option, Result, Some, [], is_some, length, map, option_map, true, ℕ, ◌++◌, ◌+◌, ◌/◌, ◌<◌, ◌≡◌, ◌≤◌, ◌⊎◌}
use Rattle.sv_borrows.specs.Grown.{Grows}
use Rattle.sv_model.specs.Books.{Books}
use Rattle.sv_model.specs.Cells.{Cell}
use Rattle.sv_model.specs.Files.{Files, file_of}
use Rattle.sv_model.specs.Journal.{value_of}
use Rattle.sv_model.specs.Lists.{In, at}
use Rattle.sv_model.specs.Reads.{LooksAt}
use Rattle.sv_model.specs.Supers.{end_at}
use Rattle.sv_model.specs.declared.records.FileMeta.{FileMeta}
use Rattle.sv_model.specs.declared.refusals.Refusal.{Refusal}
use Rattle.sv_model.specs.declared.refusals.Refusal.TheVariants as refusal
use Rattle.sv_model.specs.declared.writes.Op.{Op}
use Rattle.sv_model.specs.declared.limits.TheConstants.{MAX_WRITES}
use Rattle.sv_reads.specs.Files.{FilesAnswer, LooksServed}
use Rattle.sv_reads.specs.Parts.{FindsAfter}
use Rattle.sv_rule.specs.Fits.{Fits}
use Rattle.sv_rule.specs.LockPlays.{HasRef}
use Rattle.sv_rule.specs.SlotPlays.{IsShown}
use Rattle.sv_rule.specs.Table.{slot_of}
use Rattle.sv_rule.specs.Views.{Bodied, FileRead, LaneView, RowsRead, borrow}

-- the directory told its files at the opening
abbrev pub is_told : LaneView → Bool
is_told v = is_some v.known.start.disk.files

-- The lane has a reference of this SuperVersion of the family, in hand or borrowed, and knows the body.
pub record MayRead (f : ℕ) (x : Bodied) (v : LaneView) : Type 0 where
  pub near : f < 16
  pub has : In x v.known.bodies
  pub held : HasRef v x.pack
  pub shown : IsShown f x

-- A read leaves all as it was, but for what the lane knows of rows and files, and the counts of cells taken and of
-- failures.
pub record Reads (taken : ℕ) (v w : LaneView) : Type 0 where
  pub grows : Grows v.known w.known
  pub found : w.known.found ≡ v.known.found
  pub left : w.known.left ≡ v.known.left
  pub bodies : w.known.bodies ≡ v.known.bodies
  pub seat : w.seat ≡ v.seat
  pub locks : w.locks ≡ v.locks
  pub slots : w.slots ≡ v.slots
  pub hand : w.hand ≡ v.hand
  pub owes : w.owes ≡ v.owes
  pub joined : w.joined ≡ v.joined
  pub looks : w.counts.looks ≡ v.counts.looks
  pub uses : w.counts.uses ≡ v.counts.uses
  pub misses : w.counts.misses ≡ v.counts.misses
  pub swept : w.counts.swept ≡ v.counts.swept
  pub takes : w.counts.takes ≡ v.counts.takes + taken
  pub faults : v.counts.faults ≤ w.counts.faults

-- ---- the active memtable

-- the cell has a memtable, whose rows end at no more than the greatest number of writes
abbrev pub HasRowsIn : Option Cell → ℕ → Type 0
HasRowsIn c base = (it : Cell) × (c ≡ Some it) × (base + length it.rows ≤ MAX_WRITES)

-- This was found of the key in rows of the body's active memtable, which end at the cut.
pub record MetAt (f : ℕ) (x : Bodied) (key : List ℕ) (found : Option (Option (List ℕ))) (cut : ℕ) (v w : LaneView) : Type 0 where
  pub read : RowsRead
  pub has : In read w.known.rows
  pub mem : read.mem ≡ x.body.descriptor.active
  pub cut_is : cut ≡ x.body.descriptor.base + length read.rows
  pub op : Option Op
  pub found_is : found ≡ option_map value_of op
  pub newest : FindsAfter x.body.descriptor.base read.rows key cut op
  -- a borrow's floor was reached
  pub floor : (n : ℕ) → slot_of v f ≡ borrow x.pack n → n ≤ cut
  -- so was all that the lane had met, or the memtable has no more rows
  pub reaches : (at 0 v.known.seen f ≤ cut) ⊎ (read.whole ≡ true)
  pub seen : cut ≤ at 0 w.known.seen f

-- ---- files

-- what the files of a body hold, where the directory tells them
abbrev pub reads_in : Option Files → List FileMeta → List FileRead
reads_in None files = []
reads_in (Some all) files = map (λ file. record { number = file.number; bytes = file_of file.number all }) files

-- The files of the body were read, the newest first, from such files of the directory, where it tells them.
pub record ReadsFiles (x : Bodied) (key : List ℕ) (cut : ℕ) (result : Result (Option Op) Refusal) (v w : LaneView) : Type 0 where
  pub told : Option Files
  pub as_first : is_some told ≡ is_told v
  pub reads : w.known.reads ≡ v.known.reads ++ reads_in told x.body.files
  pub looks : LooksServed told x.body.files key cut result
  pub answer : FilesAnswer told x.body.files key cut result

-- ---- a read as a whole

-- In all books that fit what the lane knows now, the SuperVersion of the pack was read up to the cut, and the value is
-- that of the key after so many writes of the family.
abbrev pub FindsAt : ℕ → List ℕ → Option (List ℕ) → ℕ → ℕ → LaneView → Type 0
FindsAt f key value cut serial w = (b : Books) → Fits b w.known → LooksAt (is_told w) b f key value cut serial

-- Why a read stopped: at a failure of the directory; or at a bad file, of which there is none where the directory tells
-- its files. Want of memory may stand in place of any answer.
abbrev pub StopsRead : LaneView → LaneView → Refusal → Type 0
StopsRead v w refusal.OutOfMemory = Unit {0}
StopsRead v w (refusal.DirFault number) = v.counts.faults < w.counts.faults
StopsRead v w (refusal.BadFile number place) = is_told w ≡ true → (b : Books) → Fits b w.known → ⊥
StopsRead v w e = ⊥

-- The cut leaves no write out that the lane had met before, but such as came after the SuperVersion's memtable was frozen.
abbrev pub Reaches : ℕ → ℕ → ℕ → LaneView → LaneView → Type 0
Reaches f p cut v w = (b : Books) → Fits b w.known → (at 0 v.known.seen f ≤ cut) ⊎ (end_at b p ≤ cut)

-- What was found in the SuperVersion, up to a cut.
pub record FindsIn (f : ℕ) (x : Bodied) (key : List ℕ) (value : Option (List ℕ)) (cut : ℕ) (v w : LaneView) : Type 0 where
  pub finds : FindsAt f key value cut (x.pack / 256) w
  pub floor : (n : ℕ) → slot_of v f ≡ borrow x.pack n → n ≤ cut
  pub reaches : Reaches f x.pack cut v w
  pub seen : cut ≤ at 0 w.known.seen f
