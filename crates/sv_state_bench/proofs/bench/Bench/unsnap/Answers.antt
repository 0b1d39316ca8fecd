use Rattle.sv_state_bench.proofs.CallLaws.{unsnapped-stands}
use Rattle.sv_state_bench.proofs.bench.Bench.unsnap.Goals as goal

pub invariant_of-self : goal.invariant_of-self
invariant_of-self c =
    let k = c.unsnap in
    let i = c.self.inside in
    unsnapped-stands i.state k.new.self i.actives.items i.outputs.items i.waiting.items c.self.invariant k.ensures.follows.sound c.args.id k.result k.ensures.ended k.ensures.kept
