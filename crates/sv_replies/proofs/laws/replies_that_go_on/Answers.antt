use Rattle.sv_replies.proofs.AloneTold.{alone-push}
use Rattle.sv_replies.proofs.ToldLaws.{lane_told-push, told-later, told-push}
use Rattle.sv_replies.proofs.laws.replies_that_go_on.Goals as goal

pub returns-clause-later : goal.returns-clause-later
returns-clause-later c = told-later

pub returns-clause-push : goal.returns-clause-push
returns-clause-push c = told-push

pub returns-clause-lane : goal.returns-clause-lane
returns-clause-lane c = lane_told-push

pub returns-clause-alone : goal.returns-clause-alone
returns-clause-alone c = alone-push
