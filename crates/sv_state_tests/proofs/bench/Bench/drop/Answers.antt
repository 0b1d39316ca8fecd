use Rattle.sv_state_tests.proofs.Standings.{dropped-stands}
use Rattle.sv_state_tests.proofs.bench.Bench.drop.Goals as goal

pub invariant_of-self : goal.invariant_of-self
invariant_of-self c =
    let k = c.drop_family in
    dropped-stands c.self.inside.state k.new.self c.self.inside.waiting c.self.invariant k.ensures.follows.sound c.args.lane k.result k.ensures.dropped k.ensures.kept
