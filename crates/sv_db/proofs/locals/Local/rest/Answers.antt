use Rattle.sv_db.proofs.Keeping.{rests-keeps, still-local}
use Rattle.sv_db.proofs.locals.Local.rest.Goals as goal

pub returns-clause-local : goal.returns-clause-local
returns-clause-local g c =
    let self = c.args.self.now in let e = c.rest.ensures in
    let keeps = rests-keeps c.rest.result self.seat.seat.me.0 c.rest.new.seat.seat.me.0 e.rests in
    still-local _ c.args.db.now.lanes self.lane self.handles self.pins self.seat c.rest.new.seat e.same
    keeps.0 c.requires.local keeps.1
