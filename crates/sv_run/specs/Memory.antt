-- A stream in memory.
use Rattle.std.specs.Prelude.{ℕ, List}

pub record Stream : Type 0 where
  -- what is left to read, or what was written
  pub bytes : List ℕ
  -- at most so many bytes move in one call
  pub piece : ℕ
  -- the numbers, from 1, of the calls that fail
  pub fails : List ℕ
  pub calls : ℕ
  pub faults : ℕ
