use Rattle.sv_replies.proofs.FrozenLaws.{frozen-first, frozen-kept}
use Rattle.sv_replies.proofs.laws.actives_that_freeze.Goals as goal

pub returns-clause-first : goal.returns-clause-first
returns-clause-first c = frozen-first

pub returns-clause-kept : goal.returns-clause-kept
returns-clause-kept c = frozen-kept
