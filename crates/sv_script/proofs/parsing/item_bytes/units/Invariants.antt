use Rattle.std.proofs.Common.{◌≡◌, length}
use Rattle.sv_script.specs.Items.{units_of}
use Rattle.sv_script.proofs.UnitLemmas.{with_front}
use Rattle.sv_script.proofs.parsing.item_bytes.units.Given as goal

abbrev pub invariant-loop-rest : goal.invariant-loop-rest
invariant-loop-rest l = with_front l.bytes (units_of l.rest) ≡ units_of l.word

abbrev pub decreases-loop-rest : goal.decreases-loop-rest
decreases-loop-rest l = length l.rest
