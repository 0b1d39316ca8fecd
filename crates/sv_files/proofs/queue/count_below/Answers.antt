use Rattle.std.proofs.Common.{Ok, Err}
use Rattle.sv_files.proofs.AscendingNumbers.{search-rising, below-ok, below-err}
use Rattle.sv_files.proofs.queue.count_below.Goals as goal

pub returns-in-Ok-clause-below : goal.returns-in-Ok-clause-below
returns-in-Ok-clause-below c =
    below-ok c.args.queue.now.items c.args.bound c.in-Ok.at c.requires (search-rising c.args.queue.now.items c.args.bound (Ok c.in-Ok.at) c.requires c.in-Ok.ensures.position)

pub returns-in-Err-clause-below : goal.returns-in-Err-clause-below
returns-in-Err-clause-below c =
    below-err c.args.queue.now.items c.args.bound c.in-Err.at c.requires (search-rising c.args.queue.now.items c.args.bound (Err c.in-Err.at) c.requires c.in-Err.ensures.position)
