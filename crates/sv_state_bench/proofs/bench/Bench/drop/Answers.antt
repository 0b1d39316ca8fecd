use Rattle.sv_state_bench.proofs.Standings.{dropped-stands}
use Rattle.sv_state_bench.proofs.bench.Bench.drop.Goals as goal

pub invariant_of-self : goal.invariant_of-self
invariant_of-self c =
    let k = c.drop_family in
    let i = c.self.inside in
    dropped-stands i.state k.new.self i.actives.items i.outputs.items i.waiting.items c.self.invariant k.ensures.follows.sound c.args.lane k.result k.ensures.dropped k.ensures.kept
