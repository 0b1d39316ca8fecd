-- The file of a flush or a compaction against what a SuperVersion names.
use Rattle.std.specs.Prelude.{◌≡◌, ◌<◌, ℕ, true, false, List, [], ◌∷◌, ◌++◌, length}
use Rattle.sv_model.specs.declared.writes.Write.{Write}
use Rattle.sv_model.specs.declared.writes.Row.{Row}
use Rattle.sv_model.specs.declared.records.Descriptor.{Descriptor}
use Rattle.sv_model.specs.declared.records.FileMeta.{FileMeta}
use Rattle.sv_model.specs.Books.{Books}
use Rattle.sv_model.specs.Described.{Describes}
use Rattle.sv_model.specs.Flat.{AreCuts}
use Rattle.sv_model.specs.Journal.{borne_by, rows_of}
use Rattle.sv_model.specs.Lists.{Every}
use Rattle.sv_model.specs.Ranges.{reach_of}
use Rattle.sv_model.specs.Snapshots.{IsClear}

-- the rows that memtables bear, of which the first is the oldest
abbrev pub rows_borne : List Write → List ℕ → List Row
rows_borne journal [] = []
rows_borne journal (m ∷ members) = rows_of (borne_by m journal) ++ rows_borne journal members

-- what the descriptor names fits together
abbrev pub DescribesIn : Books → Descriptor → Type 0
DescribesIn b d = Describes b.journal b.memtables b.lists b.versions b.files.numbers b.metas d

-- The file goes on where the files end, and covers the whole list, which has a member.
pub record PlansFlush (b : Books) (d : Descriptor) (file : FileMeta) : Type 0 where
  pub describes : DescribesIn b d
  pub some : 0 < length describes.list.members
  pub from_is : file.from ≡ reach_of describes.version.files
  pub to_is : file.to ≡ d.base
  pub kind : file.bottom.last ≡ false
  pub cuts : AreCuts file.from file.to file.bottom.cuts

-- The file covers the files, of which there is one, and each of them is clear of each of its cuts.
pub record PlansMerge (b : Books) (d : Descriptor) (file : FileMeta) : Type 0 where
  pub describes : DescribesIn b d
  pub some : 0 < length describes.version.files
  pub from_is : file.from ≡ 0
  pub to_is : file.to ≡ reach_of describes.version.files
  pub kind : file.bottom.last ≡ true
  pub cuts : AreCuts file.from file.to file.bottom.cuts
  pub clear : Every (λ f. Every (λ cut. IsClear cut f) file.bottom.cuts) describes.version.files
