use Rattle.sv_script.proofs.UnitLemmas.{units-pair, units-cut, units-cut_short}
use Rattle.sv_script.proofs.parsing.item_bytes.escaped.Goals as goal

pub returns-in_err-high-clause-none : goal.returns-in_err-high-clause-none
returns-in_err-high-clause-none c = rw c.from_residual.ensures (units-cut _ c.in_err-high.ensures.cases)

pub returns-in_err-low-clause-none : goal.returns-in_err-low-clause-none
returns-in_err-low-clause-none c =
    rw c.from_residual-in_err-low.ensures
    (units-cut_short _ _ _ c.in_ok-high.ensures.cases.0 c.in_err-low.ensures.cases)

pub returns-in_err-byte-clause-none : goal.returns-in_err-byte-clause-none
returns-in_err-byte-clause-none c =
    rw c.from_residual-in_err-byte.ensures
    (units-pair _ _ _ _ _ _ c.in_ok-high.ensures.cases.0 c.in_ok-low.ensures.cases.0 c.in_err-byte.ensures)

pub returns-clause-some : goal.returns-clause-some
returns-clause-some c =
    units-pair _ _ _ _ _ _ c.in_ok-high.ensures.cases.0 c.in_ok-low.ensures.cases.0 c.in_ok-byte.ensures
