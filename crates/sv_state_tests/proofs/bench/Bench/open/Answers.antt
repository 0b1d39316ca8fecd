use Rattle.sv_state_tests.proofs.Standings.{opened-stands}
use Rattle.sv_state_tests.proofs.bench.Bench.open.Goals as goal

pub invariant_of-self : goal.invariant_of-self
invariant_of-self c =
    let k = c.open_family in
    opened-stands c.self.inside.state k.new.self c.self.inside.waiting c.self.invariant k.ensures.follows.sound c.args.lane k.result k.ensures.opened k.ensures.kept
