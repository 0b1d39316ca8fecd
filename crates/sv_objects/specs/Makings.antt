-- What is made with a SuperVersion.
use Rattle.std.specs.Prelude.{◌≡◌, ◌+◌, ◌*◌, ◌++◌, ◌∷◌, ℕ, true, List, [], Some, length, drop}
use Rattle.sv_model.specs.declared.records.SuperVersion.{SuperVersion}
use Rattle.sv_model.specs.declared.records.Descriptor.{Descriptor}
use Rattle.sv_model.specs.declared.records.Memtable.{Memtable}
use Rattle.sv_model.specs.declared.records.MemtableList.{MemtableList}
use Rattle.sv_model.specs.declared.records.Version.{Version}
use Rattle.sv_model.specs.declared.records.FileMeta.{FileMeta}
use Rattle.sv_model.specs.declared.settings.Options.{Options}
use Rattle.sv_model.specs.Named.{memtable_live, super_live}
use Rattle.sv_model.specs.Places.{IsLeastFree, cell_of, place_of}
use Rattle.sv_model.specs.Registers.{entry}
use Rattle.sv_laws.specs.Installs.{HasRoom, HasCell, live_super}
use Rattle.sv_objects.specs.declared.bodies.Body.{Body}
use Rattle.sv_objects.specs.declared.bodies.Held.{Held}
use Rattle.sv_objects.specs.declared.objects.Objects.{Objects}
use Rattle.sv_objects.specs.Shown.{shown}

-- the memtable has this cell
pub record IsCellOf (memtables : List Memtable) (mem cell : ℕ) : Type 0 where
  pub it : Memtable
  pub at : entry memtables mem ≡ Some it
  pub is : it.cell ≡ cell

-- The body has this descriptor and cell, and what was held for it.
pub record IsBody (d : Descriptor) (cell : ℕ) (held : Held) (body : Body) : Type 0 where
  pub descriptor_is : body.descriptor ≡ d
  pub cell_is : body.cell ≡ cell
  pub frozen_are : shown body.frozen ≡ shown held.frozen.items
  pub files_are : body.files ≡ held.files.items

-- A SuperVersion of this descriptor is made, with its reference.
pub record RefMade (old : List SuperVersion) (d : Descriptor) (cell : ℕ) (held : Held) (new : List SuperVersion) (pack : ℕ) (body : Body) : Type 0 where
  pub place : ℕ
  pub room : HasRoom old place
  pub least : IsLeastFree super_live place_of old place
  pub made : new ≡ old ++ live_super d place ∷ []
  pub pack_is : pack ≡ (length old + 1) * 256 + place
  pub body_is : IsBody d cell held body

-- the descriptor of a switch
abbrev pub switched : Objects → Descriptor → ℕ → Descriptor
switched o d base = record d { active = length o.memtables + 1; list = length o.lists + 1; base = base }

-- A SuperVersion over a new memtable, with a new list, which has the active one before last.
pub record SwitchMade (old : Objects) (d : Descriptor) (base : ℕ) (held : Held) (new : Objects) (pack : ℕ) (body : Body) : Type 0 where
  pub cell : ℕ
  pub cell_room : HasCell old.memtables cell
  pub cell_least : IsLeastFree memtable_live cell_of old.memtables cell
  pub ref : RefMade old.supers (switched old d base) cell held new.supers pack body
  pub memtables : new.memtables ≡ old.memtables ++ record { family = d.family; first = base; cell = cell; live = true } ∷ []
  pub lists : (l : MemtableList) → entry old.lists d.list ≡ Some l → new.lists ≡ old.lists ++ record { members = l.members ++ d.active ∷ []; live = true } ∷ []
  pub versions : new.versions ≡ old.versions
  pub files : new.files ≡ old.files

-- the descriptor of a flush, and of a compaction
abbrev pub flushed : Objects → Descriptor → Descriptor
flushed o d = record d { list = length o.lists + 1; version = length o.versions + 1 }

abbrev pub compacted : Objects → Descriptor → Descriptor
compacted o d = record d { version = length o.versions + 1 }

-- A SuperVersion with a new Version, which has the file last, and a new list, without the oldest members.
pub record FlushMade (old : Objects) (d : Descriptor) (cell : ℕ) (file : FileMeta) (count : ℕ) (held : Held) (new : Objects) (pack : ℕ) (body : Body) : Type 0 where
  pub ref : RefMade old.supers (flushed old d) cell held new.supers pack body
  pub memtables : new.memtables ≡ old.memtables
  pub lists : (l : MemtableList) → entry old.lists d.list ≡ Some l → new.lists ≡ old.lists ++ record { members = drop count l.members; live = true } ∷ []
  pub versions : (v : Version) → entry old.versions d.version ≡ Some v → new.versions ≡ old.versions ++ record { files = v.files ++ file ∷ []; live = true } ∷ []
  pub files : new.files ≡ old.files

-- A SuperVersion with a new Version, which has the file alone.
pub record CompactionMade (old : Objects) (d : Descriptor) (cell : ℕ) (file : FileMeta) (held : Held) (new : Objects) (pack : ℕ) (body : Body) : Type 0 where
  pub ref : RefMade old.supers (compacted old d) cell held new.supers pack body
  pub memtables : new.memtables ≡ old.memtables
  pub lists : new.lists ≡ old.lists
  pub versions : new.versions ≡ old.versions ++ record { files = file ∷ []; live = true } ∷ []
  pub files : new.files ≡ old.files

-- the descriptor of a family's first SuperVersion
abbrev pub first_of : Objects → ℕ → Options → Descriptor
first_of o family options = record {
  family = family;
  active = length o.memtables + 1;
  list = length o.lists + 1;
  version = length o.versions + 1;
  base = 0;
  options = options;
}

-- A family's first SuperVersion, over its first memtable, list and Version.
pub record FamilyMade (old : Objects) (family : ℕ) (options : Options) (new : Objects) (pack : ℕ) (body : Body) : Type 0 where
  pub cell : ℕ
  pub cell_room : HasCell old.memtables cell
  pub cell_least : IsLeastFree memtable_live cell_of old.memtables cell
  pub place : ℕ
  pub room : HasRoom old.supers place
  pub least : IsLeastFree super_live place_of old.supers place
  pub supers : new.supers ≡ old.supers ++ live_super (first_of old family options) place ∷ []
  pub memtables : new.memtables ≡ old.memtables ++ record { family = family; first = 0; cell = cell; live = true } ∷ []
  pub lists : new.lists ≡ old.lists ++ record { members = []; live = true } ∷ []
  pub versions : new.versions ≡ old.versions ++ record { files = []; live = true } ∷ []
  pub files : new.files ≡ old.files
  pub pack_is : pack ≡ (length old.supers + 1) * 256 + place
  pub descriptor_is : body.descriptor ≡ first_of old family options
  pub cell_is : body.cell ≡ cell
  pub frozen_are : shown body.frozen ≡ []
  pub files_are : body.files ≡ []
