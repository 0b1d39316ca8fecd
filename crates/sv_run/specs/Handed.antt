-- What contracts see of what a run is handed, before the run and after it.
use Rattle.std.specs.Prelude.{◌≡◌, ℕ, List, Option}
use Rattle.sv_model.specs.Files.{Files}

-- the words, what the source had, where it tells its bytes, and the source's count of faults
pub record Input : Type 0 where
  pub words : List (List ℕ)
  pub left : Option (List ℕ)
  pub before : ℕ
  pub now : ℕ

-- the directory's files, where it tells them, and its count of faults
pub record Directory : Type 0 where
  pub files : Option Files
  pub later : Option Files
  pub before : ℕ
  pub now : ℕ

-- what the sink holds, where it tells its bytes, and its count of faults
pub record Output : Type 0 where
  pub old : Option (List ℕ)
  pub new : Option (List ℕ)
  pub before : ℕ
  pub now : ℕ

-- the directory has the files that were handed in
abbrev pub KeepsFiles : Directory → Type 0
KeepsFiles d = d.later ≡ d.files

-- nothing was asked of the directory
pub record IsUntouched (d : Directory) : Type 0 where
  pub kept : KeepsFiles d
  pub calm : d.now ≡ d.before
