use Rattle.sv_state_bench.proofs.CallLaws.{snapped-stands}
use Rattle.sv_state_bench.proofs.bench.Bench.snap.Goals as goal

pub invariant_of-self-2 : goal.invariant_of-self-2
invariant_of-self-2 c =
    let i = c.self.inside in
    snapped-stands i.state.books c.snap.new.self.books i.actives.items i.outputs.items i.waiting.items c.self.invariant c.snap.ensures.follows.sound c.in_ok-made.ensures.made.0
