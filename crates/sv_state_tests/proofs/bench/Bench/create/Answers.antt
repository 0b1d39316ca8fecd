use Rattle.sv_state_tests.proofs.Standings.{created-stands}
use Rattle.sv_state_tests.proofs.bench.Bench.create.Goals as goal

pub invariant_of-self-2 : goal.invariant_of-self-2
invariant_of-self-2 c =
    created-stands c.self.inside.state.books c.create.new.self.books c.self.inside.waiting c.self.invariant c.create.ensures.follows.sound _ c.in_ok-install.ensures.made
