-- What the opening learns of the directory.
use Rattle.std.specs.Prelude.{◌≡◌, ◌<◌, ◌⊎◌, ◌+◌, ℕ, true, List, Some}
use Rattle.std.specs.FinMap as map
use Rattle.sv_model.specs.Files.{Files}
use Rattle.sv_model.specs.Lists.{In}
use Rattle.sv_dir.specs.TableNames.{number_named}

-- a file has a name of this number
pub record HasNumber (files : Files) (n : ℕ) : Type 0 where
  pub name : List ℕ
  pub there : map.contains_key files name ≡ true
  pub named : number_named name ≡ Some n

-- one of the names has this number
pub record HasNumberIn (names : List (List ℕ)) (n : ℕ) : Type 0 where
  pub name : List ℕ
  pub there : In name names
  pub named : number_named name ≡ Some n

-- The number is one above the greatest that one of the names has; it is 1 where none has one.
pub record IsFirstOf (first : ℕ) (names : List (List ℕ)) : Type 0 where
  pub above : (n : ℕ) → HasNumberIn names n → n < first
  pub reached : (first ≡ 1) ⊎ ((n : ℕ) × HasNumberIn names n × (first ≡ n + 1))

-- The same of the names of the files.
pub record IsFirst (first : ℕ) (files : Files) : Type 0 where
  pub above : (n : ℕ) → HasNumber files n → n < first
  pub reached : (first ≡ 1) ⊎ ((n : ℕ) × HasNumber files n × (first ≡ n + 1))
