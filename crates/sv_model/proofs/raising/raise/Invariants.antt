use Rattle.std.proofs.Common.{◌≡◌, ℕ, ◌+◌, take}
use Rattle.sv_model.specs.Counts.{count_of}
use Rattle.sv_model.specs.Lists.{times}
use Rattle.sv_model.proofs.raising.raise.Given as goal

abbrev pub invariant-loop-at : goal.invariant-loop-at
invariant-loop-at g l = (n : ℕ) → count_of l.counts n ≡ count_of l.initial.counts n + times n (take l.at (g.T.Holder.numbers l.holder))
