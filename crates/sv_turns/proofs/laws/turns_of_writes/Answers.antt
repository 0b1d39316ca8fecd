use Rattle.sv_turns.proofs.Writes.{snapped-stands, snapped-turns, unsnapped-stands, unsnapped-turns, written-stands, written-turns}
use Rattle.sv_turns.proofs.laws.turns_of_writes.Goals as goal

pub returns-clause-written : goal.returns-clause-written
returns-clause-written c l a b t k f w h own = (written-turns l a b t k f w h own, written-stands l a b t k f w h)

pub returns-clause-snapped : goal.returns-clause-snapped
returns-clause-snapped c l a b t k h = (snapped-turns l a b t k h, snapped-stands l a b t k h)

pub returns-clause-unsnapped : goal.returns-clause-unsnapped
returns-clause-unsnapped c l a b t k n x h = (unsnapped-turns l a b t k n x h, unsnapped-stands l a b t k n x h)
