-- The books of the tests: four families, each with its first SuperVersion, and nothing written.
use Rattle.std.specs.Prelude.{ℕ, suc, true, false, [], ◌∷◌, Option, Some, None, replicate}
use Rattle.sv_model.specs.Books.{Books}
use Rattle.sv_model.specs.Cells.{Cell}
use Rattle.sv_model.specs.Families.{default_family, first_options}
use Rattle.sv_model.specs.Openings.{first_memtable, first_super}
use Rattle.sv_model.specs.declared.limits.TheConstants.{MAX_FAMILIES, MAX_LANES}
use Rattle.sv_model.specs.declared.records.Family.{Family}
use Rattle.sv_model.specs.declared.records.Memtable.{Memtable}
use Rattle.sv_model.specs.declared.records.MemtableList.{MemtableList}
use Rattle.sv_model.specs.declared.records.SuperVersion.{SuperVersion}
use Rattle.sv_model.specs.declared.records.Top.{Top}
use Rattle.sv_model.specs.declared.records.Version.{Version}
use Rattle.sv_rule.specs.Views.{Body, Disk}

-- a family of which no lane has a handle
abbrev pub other_family : ℕ → Family
other_family letter = record {
  name = letter ∷ [];
  options = first_options;
  dropped = false;
  handles = replicate MAX_LANES false;
}

abbrev pub super_of : ℕ → SuperVersion
super_of f = first_super [] f first_options

abbrev pub memtable_of : ℕ → Memtable
memtable_of f = first_memtable [] f

abbrev pub no_list : MemtableList
no_list = record { members = []; live = true }

abbrev pub no_version : Version
no_version = record { files = []; live = true }

abbrev pub top_of : ℕ → Top
top_of f = record { current = Some (suc f); last = suc f }

abbrev pub world_books : Books
world_books = record {
  journal = [];
  supers = super_of 0 ∷ super_of 1 ∷ super_of 2 ∷ super_of 3 ∷ [];
  memtables = memtable_of 0 ∷ memtable_of 1 ∷ memtable_of 2 ∷ memtable_of 3 ∷ [];
  lists = no_list ∷ no_list ∷ no_list ∷ no_list ∷ [];
  versions = no_version ∷ no_version ∷ no_version ∷ no_version ∷ [];
  files = record {
    numbers = [];
    captured = replicate MAX_FAMILIES None;
    holds = replicate MAX_LANES 0;
    jobs = 0;
    next = 1;
  };
  metas = [];
  families = default_family ∷ other_family 98 ∷ other_family 99 ∷ other_family 100 ∷ [];
  tops = top_of 0 ∷ top_of 1 ∷ top_of 2 ∷ top_of 3 ∷ [];
  snapshots = [];
}

-- a directory that does not tell its files
abbrev pub world_disk : Disk
world_disk = record { files = None; faults = 0 }

-- what lies in the cell of that number
abbrev pub cell_at : ℕ → Option Cell
cell_at (suc (suc (suc (suc c)))) = None
cell_at c = Some (record { id = suc c; rows = [] })

-- what the references of a family's SuperVersion share
abbrev pub body_of : ℕ → Body
body_of f = record { descriptor = (super_of f).descriptor; cell = f; frozen = []; files = [] }
