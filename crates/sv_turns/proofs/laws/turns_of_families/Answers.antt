use Rattle.sv_turns.proofs.Families.{current_ended-ends, current_ended-turns, dropped-stands, dropped-turns, opened-stands, opened-turns, released-stands, released-turns, retired-ends, retired-turns}
use Rattle.sv_turns.proofs.laws.turns_of_families.Goals as goal

pub returns-clause-opened : goal.returns-clause-opened
returns-clause-opened c l a b t k f h other none = (opened-turns l a b t k f h other none, opened-stands l a b t k f l h)

pub returns-clause-dropped : goal.returns-clause-dropped
returns-clause-dropped c l a b t k f h = (dropped-turns l a b t k f l h, dropped-stands l a b t k f l h)

pub returns-clause-released : goal.returns-clause-released
returns-clause-released c l a b t k f h other = (released-turns l a b t k f h other, released-stands l a b t k f l h)

pub returns-clause-retired : goal.returns-clause-retired
returns-clause-retired c l a b t k f h = (retired-turns l a b t k f h, retired-ends l a b t k f l h)

pub returns-clause-current_ended : goal.returns-clause-current_ended
returns-clause-current_ended c l a b t k f h = (current_ended-turns l a b t k f h, current_ended-ends l a b t k f h)
