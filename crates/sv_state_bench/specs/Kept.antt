-- Families of a store that was kept.
use Rattle.std.specs.Prelude.{◌≡◌, ℕ, false, List, [], length}
use Rattle.sv_model.specs.declared.records.FileMeta.{FileMeta}
use Rattle.sv_model.specs.declared.openings.OpenFamily.{OpenFamily}
use Rattle.sv_model.specs.Families.{InRange}

-- file 3, which covers one write
abbrev pub kept_file : FileMeta
kept_file = record { number = 3; from = 0; to = 1; bottom = record { last = false; cuts = [] } }

-- The family has this name, these files and so many writes.
pub record IsKeptAs (name : List ℕ) (files : List FileMeta) (writes : ℕ) (f : OpenFamily) : Type 0 where
  pub name_is : f.name ≡ name
  pub options : InRange f.options
  pub files_are : f.files.items ≡ files
  pub writes_are : length f.writes.items ≡ writes
