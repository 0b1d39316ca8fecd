-- Books that fit what a lane knows.
use Rattle.std.specs.Prelude.{◌≡◌, ◌≢◌, ◌≤◌, ◌<◌, ◌+◌, ◌/◌, ◌⊎◌, ℕ, true, false, List, Some, length, map, is_some}
use Rattle.sv_model.specs.declared.writes.Write.{Write}
use Rattle.sv_model.specs.declared.records.SuperVersion.{SuperVersion}
use Rattle.sv_model.specs.declared.records.Memtable.{Memtable}
use Rattle.sv_model.specs.declared.records.MemtableList.{MemtableList}
use Rattle.sv_model.specs.declared.records.FileMeta.{FileMeta}
use Rattle.sv_model.specs.declared.records.Snapshot.{Snapshot}
use Rattle.sv_model.specs.declared.records.FileStatus.TheVariants.{Gone}
use Rattle.sv_model.specs.Journal.{of_family, borne_by, by_lane, rows_of}
use Rattle.sv_model.specs.Registers.{entry, Has}
use Rattle.sv_model.specs.Lists.{In, Every, at}
use Rattle.sv_model.specs.Reads.{IsCapturedFor}
use Rattle.sv_model.specs.Numbers.{IsRegistered}
use Rattle.sv_model.specs.HeldFiles.{IsFileText}
use Rattle.sv_model.specs.After.{After, Continues}
use Rattle.sv_model.specs.Described.{Describes}
use Rattle.sv_model.specs.Lawful.{Lawful}
use Rattle.sv_model.specs.Cells.{Cell}
use Rattle.sv_model.specs.Books.{Books}
use Rattle.sv_model.specs.Supers.{IsPackOf, IsSerialOf, pack}
use Rattle.sv_rule.specs.Views.{Known, Bodied, FrozenAt, RowsRead, FileRead, Load}

-- the memtable with its rows
abbrev pub cell_of : List Write → ℕ → Cell
cell_of journal m = record { id = m; rows = rows_of (borne_by m journal) }

-- ---- what the lane was handed

-- a frozen memtable has all rows of its memtable, and its cell
pub record IsFrozenAt (b : Books) (x : FrozenAt) : Type 0 where
  pub it : Memtable
  pub at : entry b.memtables x.frozen.id ≡ Some it
  pub cell_is : it.cell ≡ x.cell
  pub frozen_is : x.frozen ≡ cell_of b.journal x.frozen.id

-- A pack is that of a SuperVersion, whose parts fit together, and the body has what the registers give it.
pub record BodyFits (b : Books) (x : Bodied) : Type 0 where
  pub serial : ℕ
  pub super : SuperVersion
  pub at : entry b.supers serial ≡ Some super
  pub pack_is : x.pack ≡ pack serial super.place
  pub within : super.place < 256
  pub descriptor : x.body.descriptor ≡ super.descriptor
  pub fits : Describes b.journal b.memtables b.lists b.versions b.files.numbers b.metas super.descriptor
  pub cell_is : x.body.cell ≡ fits.active.cell
  pub members : fits.list.members ≡ map (λ k. k.frozen.id) x.body.frozen
  pub frozen : Every (IsFrozenAt b) x.body.frozen
  pub files : x.body.files ≡ fits.version.files

-- ---- what the lane read

-- the memtable is a member of a list ever made
pub record IsMember (lists : List MemtableList) (m : ℕ) : Type 0 where
  pub id : ℕ
  pub list : MemtableList
  pub at : entry lists id ≡ Some list
  pub has : In m list.members

-- a write of the family after these rows is not the memtable's
pub record IsPassed (journal : List Write) (memtables : List Memtable) (m rows : ℕ) : Type 0 where
  pub it : Memtable
  pub at : entry memtables m ≡ Some it
  pub past : it.first + rows < length (of_family it.family journal)

-- The memtable bears so many rows for ever: no more are added.
abbrev pub IsClosed : List Write → List MemtableList → List Memtable → ℕ → ℕ → Type 0
IsClosed journal lists memtables m rows = IsMember lists m ⊎ IsPassed journal memtables m rows

-- Rows that were read stand in front of their memtable's rows; whole ones are all that it ever bears.
pub record RowsFit (b : Books) (x : RowsRead) : Type 0 where
  pub front : Continues x.rows (rows_of (borne_by x.mem b.journal))
  pub whole : x.whole ≡ true → (rows_of (borne_by x.mem b.journal) ≡ x.rows)
      × IsClosed b.journal b.lists b.memtables x.mem (length x.rows)

-- a file that was read is the text of a file captured for a family
pub record ReadFits (b : Books) (x : FileRead) : Type 0 where
  pub family : ℕ
  pub captured : Has (IsCapturedFor family x.number) b.files.numbers
  pub file : FileMeta
  pub covers : In file b.metas
  pub number : file.number ≡ x.number
  pub bytes : List ℕ
  pub given : x.bytes ≡ Some bytes
  pub text : IsFileText b.journal family file bytes

-- ---- what the lane loaded

-- no SuperVersion of x's family comes after x and up to y
pub record AreApart (supers : List SuperVersion) (x y : Load) : Type 0 where
  pub left : IsPackOf supers x.family x.pack
  pub right : IsPackOf supers y.family y.pack
  pub none : (t : ℕ) → IsSerialOf supers x.family t → x.pack / 256 < t → y.pack / 256 < t

-- any two of the list that are of different families, and have a pack, were current together
abbrev pub Together : List SuperVersion → List Load → Type 0
Together supers frame =
    Every (λ x. Every (λ y. x.family ≢ y.family → 256 ≤ x.pack → 256 ≤ y.pack → AreApart supers x y) frame) frame

-- ----

-- the snapshot was made and is Gone
abbrev pub IsGoneSnapshot : List Snapshot → ℕ → Type 0
IsGoneSnapshot snapshots n = (x : Snapshot) × (entry snapshots n ≡ Some x) × (x.live ≡ false)

pub record Fits (b : Books) (k : Known) : Type 0 where
  pub lawful : Lawful b
  pub start : After k.start.books b
  pub found : Every (λ a. After a b) k.found
  pub left : Every (λ a. After a b) k.left
  pub mine : Continues k.mine (by_lane k.lane b.journal)
  pub bodies : Every (BodyFits b) k.bodies
  pub rows : Every (RowsFit b) k.rows
  -- what was read of files is told where the directory tells its files
  pub reads : is_some k.start.disk.files ≡ true → Every (ReadFits b) k.reads
  pub seen : (f : ℕ) → at 0 k.seen f ≤ length (of_family f b.journal)
  pub removed : Every (λ n. IsRegistered b.files.numbers n Gone) k.task.removed
  pub ended : Every (IsGoneSnapshot b.snapshots) k.task.ended
  pub round : k.round ≤ length b.supers + length b.families
  pub frames : Every (Together b.supers) k.frames
