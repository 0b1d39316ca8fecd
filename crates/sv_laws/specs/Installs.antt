-- A SuperVersion becomes a family's current.
use Rattle.std.specs.Prelude.{◌≡◌, ◌≢◌, ◌<◌, ◌≤◌, ◌+◌, ◌++◌, ◌∷◌, ◌⊎◌, ℕ, true, false, List, [], Some, length, slice_get}
use Rattle.sv_model.specs.declared.records.SuperVersion.{SuperVersion}
use Rattle.sv_model.specs.declared.records.Descriptor.{Descriptor}
use Rattle.sv_model.specs.declared.records.Memtable.{Memtable}
use Rattle.sv_model.specs.declared.records.MemtableList.{MemtableList}
use Rattle.sv_model.specs.declared.records.Version.{Version}
use Rattle.sv_model.specs.declared.records.FileMeta.{FileMeta}
use Rattle.sv_model.specs.declared.records.Family.{Family}
use Rattle.sv_model.specs.declared.records.Top.{Top}
use Rattle.sv_model.specs.declared.records.RegisteredFile.{RegisteredFile}
use Rattle.sv_model.specs.declared.records.FileStatus.TheVariants.{Live}
use Rattle.sv_model.specs.Journal.{of_family}
use Rattle.sv_model.specs.Ranges.{reach_of}
use Rattle.sv_model.specs.Lists.{In, bit, total}
use Rattle.sv_model.specs.Registers.{entry, EachEntry}
use Rattle.sv_model.specs.Books.{Books, FileRegister, files_of, end_of}
use Rattle.sv_model.specs.Named.{IsLiveMemtable, IsLiveList, IsLiveVersion, numbers_of}
use Rattle.sv_model.specs.Families.{InRange}
use Rattle.sv_model.specs.Numbers.{IsRegistered, IsSettled}
use Rattle.sv_model.specs.Snapshots.{IsLastFile, IsAwaitedFile}
use Rattle.sv_model.specs.Described.{Describes}
use Rattle.sv_model.specs.Steady.{IsCurrent, IsAwaited}
use Rattle.sv_laws.specs.Growing.{Grows, IsPlaced}
use Rattle.sv_model.specs.declared.limits.TheConstants.{MAX_CELLS, MAX_FAMILIES, MAX_LANES, MAX_PLACES, MAX_SUPERS}

-- the family is not dropped, and has this current
pub record IsOpen (a : Books) (f s : ℕ) (c : SuperVersion) : Type 0 where
  pub current : IsCurrent a.tops a.supers f s c
  pub family : Family
  pub family_at : slice_get a.families f ≡ Some family
  pub stands : family.dropped ≡ false

-- one SuperVersion more may be made, at this place
pub record HasRoom (supers : List SuperVersion) (place : ℕ) : Type 0 where
  pub few : length supers < MAX_SUPERS
  pub few_live : total (λ s. bit s.live) supers < MAX_PLACES
  pub within : place < MAX_PLACES
  pub free : EachEntry (λ k s. s.live ≡ true → s.place ≡ place → ⊥) supers

-- one memtable more may be Live, in this cell
pub record HasCell (memtables : List Memtable) (cell : ℕ) : Type 0 where
  pub few : total (λ m. bit m.live) memtables < MAX_CELLS
  pub within : cell < MAX_CELLS
  pub free : EachEntry (λ k m. m.live ≡ true → m.cell ≡ cell → ⊥) memtables

abbrev pub live_super : Descriptor → ℕ → SuperVersion
live_super d place = record { descriptor = d; place = place; live = true }

-- the family's current is the SuperVersion that comes next, and its last Version is this one
abbrev pub next_top : Books → ℕ → Top
next_top a version = record { current = Some (length a.supers + 1); last = version }

-- ---- what is new with it

-- a new memtable, which is the active one
pub record IsNewMemtable (a : Books) (f active n : ℕ) (y : Memtable) : Type 0 where
  pub is_active : n ≡ active
  pub live : y.live ≡ true
  pub family_is : y.family ≡ f
  pub first_is : y.first ≡ length (of_family f a.journal)
  pub room : HasCell a.memtables y.cell

-- a new list, of memtables that are Live and were made before the active one
pub record IsNewList (a : Books) (active list n : ℕ) (z : MemtableList) : Type 0 where
  pub is_list : n ≡ list
  pub live : z.live ≡ true
  pub members : (m : ℕ) → In m z.members → IsLiveMemtable a.memtables m × (m < active)

-- a new Version, of files that are Live
pub record IsNewVersion (numbers : List RegisteredFile) (version n : ℕ) (v : Version) : Type 0 where
  pub is_version : n ≡ version
  pub live : v.live ≡ true
  pub files : (k : ℕ) → In k (numbers_of v.files) → IsRegistered numbers k Live

-- the family's captured number is Live, and the Version has it
pub record IsFiled (old new : FileRegister) (family : ℕ) (versions : List Version) (version : ℕ) : Type 0 where
  pub number : ℕ
  pub settled : IsSettled family number Live old new
  pub it : Version
  pub at : entry versions version ≡ Some it
  pub has : In number (numbers_of it.files)

-- The SuperVersion x, which is new, is the current of family f, whose record is r. A memtable, a list and a Version
-- that are new are those which it names.
pub record Installs (a b : Books) (f : ℕ) (r : Family) (x : SuperVersion) : Type 0 where
  pub rest : b ≡ record a {
    supers = a.supers ++ x ∷ [];
    memtables = b.memtables;
    lists = b.lists;
    versions = b.versions;
    files = b.files;
    families = b.families;
    tops = b.tops;
  }
  pub family_is : x.descriptor.family ≡ f
  pub live : x.live ≡ true
  pub room : HasRoom a.supers x.place
  pub memtables : Grows (IsNewMemtable a f x.descriptor.active) a.memtables b.memtables
  pub lists : Grows (IsNewList a x.descriptor.active x.descriptor.list) a.lists b.lists
  pub versions : Grows (IsNewVersion b.files.numbers x.descriptor.version) a.versions b.versions
  pub files : (b.files ≡ a.files) ⊎ IsFiled a.files b.files f b.versions x.descriptor.version
  -- what it names is Live and fits together
  pub active_live : IsLiveMemtable b.memtables x.descriptor.active
  pub list_lives : IsLiveList b.lists x.descriptor.list
  pub version_lives : IsLiveVersion b.versions x.descriptor.version
  pub describes : Describes a.journal b.memtables b.lists b.versions b.files.numbers a.metas x.descriptor
  pub ends : end_of a.journal x ≡ length (of_family f a.journal)
  pub awaited : (n : ℕ) → slice_get b.files.captured f ≡ Some (Some n)
      → IsAwaited a.journal b.memtables b.lists b.versions a.metas n x.descriptor
  -- a file of its Version was one of the family's last Version, or was to be one
  pub lasts : (file : FileMeta) → IsLastFile b.versions b.tops f file
      → IsLastFile a.versions a.tops f file ⊎ IsAwaitedFile a.files.captured a.metas f file
  -- the family
  pub families : IsPlaced a.families b.families f r
  pub tops : IsPlaced a.tops b.tops f (next_top a x.descriptor.version)
  pub paired : length b.tops ≡ length b.families
  pub more : length a.families ≤ length b.families
  pub few_families : length b.families ≤ MAX_FAMILIES
  pub stands : r.dropped ≡ false
  pub options_are : r.options ≡ x.descriptor.options
  pub in_range : InRange r.options
  pub handles : length r.handles ≡ MAX_LANES
  pub name_free : (g : ℕ) (y : Family) → g ≢ f → slice_get a.families g ≡ Some y → y.dropped ≡ false → r.name ≡ y.name
      → ⊥
  -- Where the family was there before, it had a current, whose place the new one takes.
  pub was : (o : Family) → slice_get a.families f ≡ Some o → (r.name ≡ o.name) × (o.dropped ≡ false)
  pub had : (t : Top) → slice_get a.tops f ≡ Some t → (s : ℕ) × (t.current ≡ Some s)
  -- its active memtable is new, or that of the current before
  pub onward : (x.descriptor.active ≡ length a.memtables + 1) ⊎ ((s : ℕ) × (c : SuperVersion) × IsCurrent a.tops a.supers f s c × (c.descriptor.active ≡ x.descriptor.active))
  pub reach : (t : Top) → slice_get a.tops f ≡ Some t
      → reach_of (files_of a.versions t.last) ≤ reach_of (files_of b.versions x.descriptor.version)
