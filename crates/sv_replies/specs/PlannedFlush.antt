-- What a flush under way keeps until its end.
use Rattle.std.specs.Prelude.{◌<◌, ◌≤◌, ℕ}
use Rattle.sv_model.specs.declared.records.FileMeta.{FileMeta}
use Rattle.sv_replies.specs.Known.{Known}

-- the file covers all that the lane had seen of the family, and its number is above each that the lane was shown
pub record IsPlannedFor (k : Known) (family : ℕ) (file : FileMeta) : Type 0 where
  pub later : (k.families family).seen ≤ file.to
  pub newer : k.file < file.number
