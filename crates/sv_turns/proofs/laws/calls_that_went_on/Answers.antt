use Rattle.sv_turns.proofs.Unrefused.{no_holds, not-default}
use Rattle.sv_turns.proofs.laws.calls_that_went_on.Goals as goal

pub returns-clause-free : goal.returns-clause-free
returns-clause-free c = no_holds

pub returns-clause-other : goal.returns-clause-other
returns-clause-other c = not-default
