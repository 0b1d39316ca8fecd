-- The five ways in which a family gets a new current: an option is set, the active memtable is frozen, a flush or a
-- compaction ends, a family is made.
use Rattle.std.specs.Prelude.{◌≡◌, ◌<◌, ◌≤◌, ◌+◌, ◌++◌, ◌∷◌, ℕ, true, false, List, [], Some, length, slice_get, slice_set}
use Rattle.sv_model.specs.declared.records.SuperVersion.{SuperVersion}
use Rattle.sv_model.specs.declared.records.Memtable.{Memtable}
use Rattle.sv_model.specs.declared.records.MemtableList.{MemtableList}
use Rattle.sv_model.specs.declared.records.Version.{Version}
use Rattle.sv_model.specs.declared.records.FileMeta.{FileMeta}
use Rattle.sv_model.specs.declared.records.Family.{Family}
use Rattle.sv_model.specs.declared.records.FileStatus.TheVariants.{Live}
use Rattle.sv_model.specs.declared.settings.Options.{Options}
use Rattle.sv_model.specs.Journal.{borne_by, of_family}
use Rattle.sv_model.specs.Lists.{In, Every}
use Rattle.sv_model.specs.Registers.{entry}
use Rattle.sv_model.specs.Books.{Books}
use Rattle.sv_model.specs.Families.{InRange}
use Rattle.sv_model.specs.Numbers.{IsSettled}
use Rattle.sv_laws.specs.Installs.{IsOpen, HasRoom, HasCell, live_super, next_top}
use Rattle.sv_model.specs.declared.limits.TheConstants.{MAX_FAMILIES, MAX_LANES}

-- The family's options are others.
pub record IsOptionSet (a b : Books) (f : ℕ) (o : Options) : Type 0 where
  pub s : ℕ
  pub c : SuperVersion
  pub is_open : IsOpen a f s c
  pub place : ℕ
  pub room : HasRoom a.supers place
  pub in_range : InRange o
  pub is : b ≡ record a {
    supers = a.supers ++ live_super (record c.descriptor { options = o }) place ∷ [];
    families = slice_set a.families f (record is_open.family { options = o });
    tops = slice_set a.tops f (next_top a c.descriptor.version);
  }

-- The active memtable, which has a row, joins a new list as the last, and a new one without rows is active.
pub record IsSwitched (a b : Books) (f : ℕ) : Type 0 where
  pub s : ℕ
  pub c : SuperVersion
  pub is_open : IsOpen a f s c
  pub place : ℕ
  pub room : HasRoom a.supers place
  pub cell : ℕ
  pub cell_room : HasCell a.memtables cell
  pub list : MemtableList
  pub list_at : entry a.lists c.descriptor.list ≡ Some list
  pub row : 0 < length (borne_by c.descriptor.active a.journal)
  pub is : b ≡ record a {
    supers = a.supers ++ live_super (record c.descriptor { active = length a.memtables + 1; list = length a.lists + 1; base = length (of_family f a.journal) }) place ∷ [];
    memtables = a.memtables ++ record { family = f; first = length (of_family f a.journal); cell = cell; live = true } ∷ [];
    lists = a.lists ++ record { members = list.members ++ c.descriptor.active ∷ []; live = true } ∷ [];
    tops = slice_set a.tops f (next_top a c.descriptor.version);
  }

-- the memtables that begin before a write, and the others
pub record IsParted (memtables : List Memtable) (to : ℕ) (members back : List ℕ) : Type 0 where
  pub front : List ℕ
  pub parts : members ≡ front ++ back
  pub low : Every (λ m. (it : Memtable) → entry memtables m ≡ Some it → it.first < to) front
  pub high : Every (λ m. (it : Memtable) → entry memtables m ≡ Some it → to ≤ it.first) back

-- A flush ends: its file is the last of a new Version, and the memtables that it covers are not in a new list.
pub record IsFlushed (a b : Books) (f : ℕ) (file : FileMeta) : Type 0 where
  pub s : ℕ
  pub c : SuperVersion
  pub is_open : IsOpen a f s c
  pub place : ℕ
  pub room : HasRoom a.supers place
  pub covered : In file a.metas
  pub kind : file.bottom.last ≡ false
  pub list : MemtableList
  pub list_at : entry a.lists c.descriptor.list ≡ Some list
  pub back : List ℕ
  pub parted : IsParted a.memtables file.to list.members back
  pub version : Version
  pub version_at : entry a.versions c.descriptor.version ≡ Some version
  pub settled : IsSettled f file.number Live a.files b.files
  pub is : b ≡ record a {
    supers = a.supers ++ live_super (record c.descriptor { list = length a.lists + 1; version = length a.versions + 1 }) place ∷ [];
    lists = a.lists ++ record { members = back; live = true } ∷ [];
    versions = a.versions ++ record { files = version.files ++ file ∷ []; live = true } ∷ [];
    files = b.files;
    tops = slice_set a.tops f (next_top a (length a.versions + 1));
  }

-- A compaction ends: its file alone is a new Version.
pub record IsCompacted (a b : Books) (f : ℕ) (file : FileMeta) : Type 0 where
  pub s : ℕ
  pub c : SuperVersion
  pub is_open : IsOpen a f s c
  pub place : ℕ
  pub room : HasRoom a.supers place
  pub covered : In file a.metas
  pub kind : file.bottom.last ≡ true
  pub settled : IsSettled f file.number Live a.files b.files
  pub is : b ≡ record a {
    supers = a.supers ++ live_super (record c.descriptor { version = length a.versions + 1 }) place ∷ [];
    versions = a.versions ++ record { files = file ∷ []; live = true } ∷ [];
    files = b.files;
    tops = slice_set a.tops f (next_top a (length a.versions + 1));
  }

-- A family more is made, with its first memtable, list, Version and SuperVersion.
pub record IsFamilyMade (a b : Books) (r : Family) : Type 0 where
  pub place : ℕ
  pub room : HasRoom a.supers place
  pub cell : ℕ
  pub cell_room : HasCell a.memtables cell
  pub few : length a.families < MAX_FAMILIES
  pub stands : r.dropped ≡ false
  pub in_range : InRange r.options
  pub handles : length r.handles ≡ MAX_LANES
  pub name_free : (g : ℕ) (y : Family) → slice_get a.families g ≡ Some y → y.dropped ≡ false → r.name ≡ y.name → ⊥
  pub is : b ≡ record a {
    supers = a.supers ++ live_super (record { family = length a.families; active = length a.memtables + 1; list = length a.lists + 1; version = length a.versions + 1; base = 0; options = r.options }) place ∷ [];
    memtables = a.memtables ++ record { family = length a.families; first = 0; cell = cell; live = true } ∷ [];
    lists = a.lists ++ record { members = []; live = true } ∷ [];
    versions = a.versions ++ record { files = []; live = true } ∷ [];
    families = a.families ++ r ∷ [];
    tops = a.tops ++ next_top a (length a.versions + 1) ∷ [];
  }
