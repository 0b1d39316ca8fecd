-- Counts of faults. A device counts them, so that an answer of failure can be tied to one.
use Rattle.std.specs.Prelude.{◌≤◌, ℕ, ◌+◌, ◌-◌, ◌^◌, min, Result, OnErr, IsErrOf}

-- The count rose by at least so much: it is that much greater than before, or stands at the last value of its
-- type.
abbrev pub RoseBy : ℕ → ℕ → ℕ → Type 0
RoseBy n before now = min (before + n) (2 ^ 64 - 1) ≤ now

-- The count rose in a call.
abbrev pub Rose : ℕ → ℕ → Type 0
Rose before now = RoseBy 1 before now

-- The count never falls, and the call gave an error only where it rose.
pub record HasCause {T E : Type 0} (before now : ℕ) (result : Result T E) : Type 0 where
  pub later : before ≤ now
  pub failed : OnErr result (Rose before now)

-- The same of a call with other errors too: this one it gave only where the count rose.
pub record HasCauseOf {T E : Type 0} (failure : E) (before now : ℕ) (result : Result T E) : Type 0 where
  pub later : before ≤ now
  pub failed : IsErrOf result failure → Rose before now
