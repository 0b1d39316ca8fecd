use Rattle.sv_state_bench.proofs.CallLaws.{held-stands}
use Rattle.sv_state_bench.proofs.bench.Bench.hold.Goals as goal

pub invariant_of-self : goal.invariant_of-self
invariant_of-self c =
    let k = c.hold in
    let i = c.self.inside in
    held-stands i.state k.new.self i.actives.items i.outputs.items i.waiting.items c.self.invariant k.ensures.follows.sound k.ensures.rest c.args.lane _ k.result k.ensures.held k.ensures.kept
