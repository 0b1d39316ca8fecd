use Rattle.sv_store.proofs.CurrentCases.{forgotten-lets-go}
use Rattle.sv_store.proofs.closes.lose_current.Goals as goal

pub returns-clause-lets_go : goal.returns-clause-lets_go
returns-clause-lets_go c = forgotten-lets-go c.args.state.now.books c.retire.new.self.books c.args.family c.retire.ensures.retired
