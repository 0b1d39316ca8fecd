use Rattle.sv_turns.proofs.Jobs.{files-stands, found-turns, job_ended-turns, scanned-turns, taken-turns, ungrabbed-turns}
use Rattle.sv_turns.proofs.laws.turns_of_jobs.Goals as goal

pub returns-clause-found : goal.returns-clause-found
returns-clause-found c l a b t k found e h free none = (found-turns l a b t k found e h free none, files-stands a b e)

pub returns-clause-scanned : goal.returns-clause-scanned
returns-clause-scanned c l a b t k listed found e h free none =
    (scanned-turns l a b t k listed found e h free none, files-stands a b e)

pub returns-clause-taken : goal.returns-clause-taken
returns-clause-taken c l a b t k n e h free none = (taken-turns l a b t k n e h free none, files-stands a b e)

pub returns-clause-ungrabbed : goal.returns-clause-ungrabbed
returns-clause-ungrabbed c l a b t k n gone marks m e h has inside number taken =
    (ungrabbed-turns l a b t k n gone marks m e h has inside number taken, files-stands a b e)

pub returns-clause-ended : goal.returns-clause-ended
returns-clause-ended c l a b t k e h has = (job_ended-turns l a b t k e h has, files-stands a b e)
