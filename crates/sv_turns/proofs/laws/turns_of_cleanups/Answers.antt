use Rattle.sv_turns.proofs.Cleanups.{cleaned-ends, cleaned-turns}
use Rattle.sv_turns.proofs.laws.turns_of_cleanups.Goals as goal

pub returns : goal.returns
returns c l a b t k s x cells h gone = (cleaned-turns l a b t k s x h, cleaned-ends l a b t k s x h cells gone)
