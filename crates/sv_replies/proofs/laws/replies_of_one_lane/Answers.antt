use Rattle.sv_replies.proofs.AloneTold.{alone-fits}
use Rattle.sv_replies.proofs.laws.replies_of_one_lane.Goals as goal

pub returns : goal.returns
returns c = alone-fits
