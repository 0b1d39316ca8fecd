use Rattle.sv_db.proofs.Keeping.{still-local, turns-keep}
use Rattle.sv_db.proofs.locals.Local.drop_family.Goals as goal

pub returns-clause-local : goal.returns-clause-local
returns-clause-local g c =
    let self = c.args.self.now in let e = c.drop_family.ensures in
    let keeps = turns-keep e.drops.found e.drops.left self.seat.seat.me.0 c.drop_family.new.seat.seat.me.0 e.drops.is in
    still-local _ c.args.db.now.lanes self.lane self.handles self.pins self.seat c.drop_family.new.seat e.same
    keeps.0 c.requires.local keeps.1
