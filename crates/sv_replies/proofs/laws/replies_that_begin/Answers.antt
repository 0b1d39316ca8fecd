use Rattle.sv_replies.proofs.AloneTold.{alone-none}
use Rattle.sv_replies.proofs.OpeningLemmas.{opening-knows}
use Rattle.sv_replies.proofs.ToldLaws.{lane_told-none, told-none}
use Rattle.sv_replies.proofs.laws.replies_that_begin.Goals as goal

pub returns-clause-told : goal.returns-clause-told
returns-clause-told c s b opening = told-none s b (opening-knows b opening)

pub returns-clause-lane : goal.returns-clause-lane
returns-clause-lane c = lane_told-none

pub returns-clause-alone : goal.returns-clause-alone
returns-clause-alone c = alone-none
