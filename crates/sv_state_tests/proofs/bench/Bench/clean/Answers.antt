use Rattle.std.proofs.Common.{ℕ, Option, subst}
use Rattle.sv_state.specs.Gone.{IsFree}
use Rattle.sv_state_tests.specs.Standing.{MayGo}
use Rattle.sv_state_tests.proofs.Standings.{cleaned-stands}
use Rattle.sv_state_tests.proofs.bench.Bench.clean.Goals as goal

pub invariant_of-self : goal.invariant_of-self
invariant_of-self c =
    let a = c.self.inside.state.books in
    let free : IsFree a c.in-Some.pack = subst (λ (z : Option ℕ). MayGo a z) c.in-Some.is c.self.invariant.waits in
    cleaned-stands a c.cleanup-cells.new.self.books c.self.inside.waiting c.self.invariant c.cleanup-cells.ensures.follows.sound free.serial free.it (c.cleanup-cells.ensures.gone free).cleaned
