use Rattle.std.proofs.Common.{arith}
use Rattle.sv_model.proofs.Lists.{same_here}
use Rattle.sv_model.proofs.CountLoops.{times-take_more, times_split}
use Rattle.sv_model.proofs.raising.raise.Goals as goal

pub up-requires : goal.up-requires
up-requires g c =
    let x = c.number-number.result in
    let split = times_split x (g.T.Holder.numbers c.args.holder.now) c.loop-at.at x (omega arith) c.number-number.ensures in
    let all = c.requires x in
    let now = c.loop-at.invariant x in
    let one = same_here x in
    omega arith

pub loop-at-preserved : goal.loop-at-preserved
loop-at-preserved g c = λ n.
    let x = c.number-number.result in
    let more = times-take_more n (g.T.Holder.numbers c.args.holder.now) c.loop-at.at x (omega arith) c.number-number.ensures in
    let now = c.loop-at.invariant n in
    let up = c.in-Ok.ensures.ok n in
    omega arith
