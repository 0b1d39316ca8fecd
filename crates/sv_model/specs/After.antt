-- When books come after others: registers only grow, and what is Gone stays so.
use Rattle.std.specs.Prelude.{◌≡◌, ◌≤◌, ◌++◌, ℕ, true, false, List, Some, None, slice_get}
use Rattle.sv_model.specs.declared.records.SuperVersion.{SuperVersion}
use Rattle.sv_model.specs.declared.records.Memtable.{Memtable}
use Rattle.sv_model.specs.declared.records.MemtableList.{MemtableList}
use Rattle.sv_model.specs.declared.records.Version.{Version}
use Rattle.sv_model.specs.declared.records.RegisteredFile.{RegisteredFile}
use Rattle.sv_model.specs.declared.records.FileStatus.TheVariants.{Gone}
use Rattle.sv_model.specs.declared.records.Family.{Family}
use Rattle.sv_model.specs.declared.records.Top.{Top}
use Rattle.sv_model.specs.declared.records.Snapshot.{Snapshot}
use Rattle.sv_model.specs.Journal.{borne_by}
use Rattle.sv_model.specs.Lists.{In}
use Rattle.sv_model.specs.Registers.{entry, GoesOn, Has}
use Rattle.sv_model.specs.Ranges.{reach_of}
use Rattle.sv_model.specs.Books.{Books, files_of}

-- the later list begins with the earlier one
abbrev pub Continues : {A : Type 0} → List A → List A → Type 0
Continues {A} a b = (more : List A) × (b ≡ a ++ more)

-- A record keeps what it says of its object, and Gone never changes back.
pub record KeepsSuper (x y : SuperVersion) : Type 0 where
  pub descriptor : y.descriptor ≡ x.descriptor
  pub place : y.place ≡ x.place
  pub gone : x.live ≡ false → y.live ≡ false

pub record KeepsMemtable (x y : Memtable) : Type 0 where
  pub family : y.family ≡ x.family
  pub first : y.first ≡ x.first
  pub cell : y.cell ≡ x.cell
  pub gone : x.live ≡ false → y.live ≡ false

pub record KeepsList (x y : MemtableList) : Type 0 where
  pub members : y.members ≡ x.members
  pub gone : x.live ≡ false → y.live ≡ false

pub record KeepsVersion (x y : Version) : Type 0 where
  pub files : y.files ≡ x.files
  pub gone : x.live ≡ false → y.live ≡ false

pub record KeepsNumber (x y : RegisteredFile) : Type 0 where
  pub number : y.number ≡ x.number
  pub family : y.family ≡ x.family
  pub gone : x.status ≡ Gone → y.status ≡ Gone

-- A family keeps its name, and stays dropped.
pub record KeepsFamily (x y : Family) : Type 0 where
  pub name : y.name ≡ x.name
  pub dropped : x.dropped ≡ true → y.dropped ≡ true

pub record KeepsSnapshot (x y : Snapshot) : Type 0 where
  pub at : y.at ≡ x.at
  pub gone : x.live ≡ false → y.live ≡ false

-- The files of the family's last Version reach at least as far. A family that had a current and has none gets
-- none again.
pub record KeepsTop (a b : Books) (family : ℕ) (x y : Top) : Type 0 where
  pub reach : reach_of (files_of a.versions x.last) ≤ reach_of (files_of b.versions y.last)
  pub ended : Has (λ s. s.descriptor.family ≡ family) a.supers → x.current ≡ None → y.current ≡ None

-- A memtable that was ever a member of a list takes no more rows.
abbrev pub KeepsRows : Books → Books → Type 0
KeepsRows a b = (l m : ℕ) (x : MemtableList) → entry a.lists l ≡ Some x → In m x.members → borne_by m b.journal ≡ borne_by m a.journal

pub record After (a b : Books) : Type 0 where
  pub journal : Continues a.journal b.journal
  pub rows : KeepsRows a b
  pub supers : GoesOn KeepsSuper a.supers b.supers
  pub memtables : GoesOn KeepsMemtable a.memtables b.memtables
  pub lists : GoesOn KeepsList a.lists b.lists
  pub versions : GoesOn KeepsVersion a.versions b.versions
  pub numbers : GoesOn KeepsNumber a.files.numbers b.files.numbers
  pub metas : Continues a.metas b.metas
  pub next : a.files.next ≤ b.files.next
  pub families : GoesOn KeepsFamily a.families b.families
  pub tops : (family : ℕ) (x : Top) → slice_get a.tops family ≡ Some x → (y : Top) × (slice_get b.tops family ≡ Some y) × KeepsTop a b family x y
  pub snapshots : GoesOn KeepsSnapshot a.snapshots b.snapshots
