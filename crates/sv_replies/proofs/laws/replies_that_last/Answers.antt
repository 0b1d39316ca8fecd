use Rattle.sv_replies.proofs.ReplyFitsLaws.{fits-later}
use Rattle.sv_replies.proofs.laws.replies_that_last.Goals as goal

pub returns : goal.returns
returns c = fits-later
