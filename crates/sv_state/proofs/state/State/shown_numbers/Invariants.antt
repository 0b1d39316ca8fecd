use Rattle.std.proofs.Common.{ℕ}
use Rattle.std.specs.Prelude.{◌↔◌}
use Rattle.std.specs.BTreeSet.{keys}
use Rattle.sv_model.specs.Lists.{In}
use Rattle.sv_state.proofs.LiveNumbers.{IsShownBelow}
use Rattle.sv_state.proofs.state.State.shown_numbers.Given as goal

abbrev pub invariant-loop-index : goal.invariant-loop-index
invariant-loop-index l = (n : ℕ) → In n (keys l.numbers) ↔ IsShownBelow l.self.books l.index n
