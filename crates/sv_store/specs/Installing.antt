-- When the file of an output may be installed.
use Rattle.std.specs.Prelude.{◌≡◌, ℕ, List, Option, None, Some, slice_get}
use Rattle.sv_model.specs.declared.records.FileMeta.{FileMeta}
use Rattle.sv_model.specs.declared.records.SuperVersion.{SuperVersion}
use Rattle.sv_model.specs.Books.{Books}
use Rattle.sv_model.specs.Cells.{Cell}
use Rattle.sv_model.specs.Lists.{In}
use Rattle.sv_laws.specs.Installs.{IsOpen}
use Rattle.sv_store.specs.Standing.{Stands}

-- The file's number is captured for the family, which is not dropped and has a current.
pub record CanInstall (b : Books) (cells : List (Option Cell)) (family : ℕ) (file : FileMeta) : Type 0 where
  pub stands : Stands b cells None
  pub serial : ℕ
  pub it : SuperVersion
  pub is_open : IsOpen b family serial it
  pub captured : slice_get b.files.captured family ≡ Some (Some file.number)
  pub covered : In file b.metas
