use Rattle.sv_turns.proofs.Accounts.{accounted-on}
use Rattle.sv_turns.proofs.laws.turns_that_go_on.Goals as goal

pub returns : goal.returns
returns c = accounted-on
