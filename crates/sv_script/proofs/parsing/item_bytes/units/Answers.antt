use Rattle.std.proofs.Common.{arith, refl}
use Rattle.std.proofs.lemmas.Bool.Decides.{nat_tests}
use Rattle.sv_script.proofs.UnitLemmas.{units-end}
use Rattle.sv_script.proofs.parsing.item_bytes.units.Goals as goal

pub returns : goal.returns
returns c =
    let at = c.loop-rest in
    rw (units-end at.bytes at.rest.now _ (grind (arith, nat_tests)) at.invariant) refl
