use Rattle.sv_state_tests.proofs.Standings.{own-currents, set-stands}
use Rattle.sv_state_tests.proofs.bench.Bench.set.Goals as goal

pub set_option-requires-clause-current : goal.set_option-requires-clause-current
set_option-requires-clause-current c = own-currents c.self.inside.state.books c.self.inside.waiting c.self.invariant c.args.lane c.in_ok-name.name

pub invariant_of-self-2 : goal.invariant_of-self-2
invariant_of-self-2 c =
    let k = c.in_ok-install in
    set-stands c.self.inside.state.books c.set_option.new.self.books c.self.inside.waiting c.put_by.new.waiting c.self.invariant c.set_option.ensures.follows.sound
    c.args.lane c.in_ok-name.name c.args.option c.args.value k.install.family k.ensures.set k.install.old k.ensures.tells.old c.put_by.ensures
