use Rattle.std.proofs.Common.{sym, inr}
use Rattle.sv_script.proofs.UnitLemmas.{units-plain, units-bad}
use Rattle.sv_script.proofs.parsing.item_bytes.first_unit.Goals as goal

pub returns-then-is_plain-clause-some : goal.returns-then-is_plain-clause-some
returns-then-is_plain-clause-some c =
    let at = c.in_ok-first in
    rw at.ensures.cases.0 (units-plain at.first.now at.rest.now (sym c.if-is_plain.ensures))

pub returns-else-is_plain-clause-none : goal.returns-else-is_plain-clause-none
returns-else-is_plain-clause-none c =
    let at = c.in_ok-first in
    inr (rw at.ensures.cases.0
    (units-bad at.first.now at.rest.now c.if-first-eq37.false (sym c.if-is_plain.ensures)))
