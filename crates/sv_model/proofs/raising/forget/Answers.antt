use Rattle.std.proofs.Common.{◌+◌, arith}
use Rattle.sv_model.proofs.Lists.{same_here}
use Rattle.sv_model.proofs.CountLoops.{times-take_more, times-take-le}
use Rattle.sv_model.proofs.raising.forget.Goals as goal

pub down-requires : goal.down-requires
down-requires g c =
    let x = c.number-number.result in
    let all = c.requires.counted x in
    let now = c.loop-at.invariant x in
    let more = times-take_more x (g.T.Holder.numbers c.args.holder.now) c.loop-at.at x (omega arith) c.number-number.ensures in
    let part = times-take-le x (g.T.Holder.numbers c.args.holder.now) (c.loop-at.at + 1) c.args.upto (omega arith) in
    let one = same_here x in
    omega arith

pub loop-at-preserved : goal.loop-at-preserved
loop-at-preserved g c = λ n.
    let x = c.number-number.result in
    let more = times-take_more n (g.T.Holder.numbers c.args.holder.now) c.loop-at.at x (omega arith) c.number-number.ensures in
    let now = c.loop-at.invariant n in
    let down = c.down.ensures n in
    omega arith
