-- What is made of a family that was kept.
use Rattle.std.specs.Prelude.{◌≡◌, ◌+◌, ◌*◌, ◌++◌, ◌∷◌, ℕ, true, List, [], length}
use Rattle.sv_model.specs.declared.records.Descriptor.{Descriptor}
use Rattle.sv_model.specs.declared.records.FileMeta.{FileMeta}
use Rattle.sv_model.specs.declared.settings.Options.{Options}
use Rattle.sv_model.specs.Named.{memtable_live, super_live}
use Rattle.sv_model.specs.Places.{IsLeastFree, cell_of, place_of}
use Rattle.sv_laws.specs.Installs.{live_super}
use Rattle.sv_objects.specs.declared.bodies.Body.{Body}
use Rattle.sv_objects.specs.declared.objects.Objects.{Objects}
use Rattle.sv_objects.specs.Makings.{first_of}
use Rattle.sv_objects.specs.Shown.{shown}

-- the descriptor of the first SuperVersion of a family that has so many writes
abbrev pub open_of : Objects → ℕ → Options → ℕ → Descriptor
open_of o family options base = record (first_of o family options) { base = base }

-- The first SuperVersion of a family that was kept, over its first memtable, an empty list, and a Version of its files.
pub record OpenMade (old : Objects) (family : ℕ) (options : Options) (base : ℕ) (kept : List FileMeta) (new : Objects) (pack : ℕ) (body : Body) : Type 0 where
  pub cell : ℕ
  pub cell_least : IsLeastFree memtable_live cell_of old.memtables cell
  pub place : ℕ
  pub least : IsLeastFree super_live place_of old.supers place
  pub supers : new.supers ≡ old.supers ++ live_super (open_of old family options base) place ∷ []
  pub memtables : new.memtables ≡ old.memtables ++ record { family = family; first = base; cell = cell; live = true } ∷ []
  pub lists : new.lists ≡ old.lists ++ record { members = []; live = true } ∷ []
  pub versions : new.versions ≡ old.versions ++ record { files = kept; live = true } ∷ []
  pub files : new.files ≡ old.files
  pub pack_is : pack ≡ (length old.supers + 1) * 256 + place
  pub descriptor_is : body.descriptor ≡ open_of old family options base
  pub cell_is : body.cell ≡ cell
  pub frozen_are : shown body.frozen ≡ []
  pub files_are : body.files ≡ kept
