use Rattle.std.proofs.Common.{◌≡◌, take}
use Rattle.sv_state.specs.Openings.{opening_numbers}
use Rattle.sv_state.proofs.opened.numbers_of.Given as goal

abbrev pub invariant-loop-id : goal.invariant-loop-id
invariant-loop-id l = l.numbers.items ≡ opening_numbers 0 (take l.id l.kept)
