-- Where a lane's replies stand.
use Rattle.std.specs.Prelude.{ℕ, Bool}

-- which lane of how many it is, and whether the directory tells its files
pub record Setting : Type 0 where
  -- from 0
  pub lane : ℕ
  pub lanes : ℕ
  pub told : Bool
