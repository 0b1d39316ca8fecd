-- What a lane counts, and what is told of it.
use Rattle.std.specs.Prelude.{◌≡◌, ◌+◌, ◌-◌, ◌^◌, ℕ, Bool, true, false, min}
use Rattle.sv_rule.specs.Views.{LaneView}
use Rattle.sv_slots.specs.declared.counters.Counts.{Counts}

-- a number above the greatest of its type is told as that
abbrev pub at_most : ℕ → ℕ
at_most n = min n (2 ^ 64 - 1)

-- These are the numbers that the lane's view has.
pub record Tells (c : Counts) (v : LaneView) : Type 0 where
  pub uses : c.uses ≡ at_most v.counts.uses
  pub misses : c.misses ≡ at_most v.counts.misses
  pub swept : c.swept ≡ at_most v.counts.swept

-- one more, where it is so
abbrev pub more : Bool → ℕ → ℕ
more false n = n
more true n = at_most (n + 1)

-- whether there is a use more, a miss, and an answer Swept
pub record Rises (used missed swept_back : Bool) (old new : Counts) : Type 0 where
  pub uses : new.uses ≡ more used old.uses
  pub misses : new.misses ≡ more missed old.misses
  pub swept : new.swept ≡ more swept_back old.swept
