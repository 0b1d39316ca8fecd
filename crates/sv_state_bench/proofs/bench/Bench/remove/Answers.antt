use Rattle.std.proofs.Common.{refl}
use Rattle.sv_state_bench.proofs.CallLaws.{removed-stands}
use Rattle.sv_state_bench.proofs.bench.Bench.remove.Goals as goal

pub invariant_of-self-2 : goal.invariant_of-self-2
invariant_of-self-2 c =
    let i = c.self.inside in
    removed-stands i.state c.take.new.self c.ungrab.new.self c.end_job.new.self i.actives.items i.outputs.items i.waiting.items c.self.invariant c.args.number c.args.gone c.take.ensures.rest
    (c.if-not-take.ensures.taken refl) c.ungrab.ensures.rest c.ungrab.ensures.marked c.end_job.ensures.rest c.end_job.ensures.ended c.end_job.ensures.follows.sound
