use Rattle.sv_replies.proofs.GrowsLaws.{makes-none, makes-push}
use Rattle.sv_replies.proofs.laws.replies_that_make.Goals as goal

pub returns-clause-none : goal.returns-clause-none
returns-clause-none c = makes-none

pub returns-clause-push : goal.returns-clause-push
returns-clause-push c = makes-push
