use Rattle.sv_db.proofs.Keeping.{puts-keeps, still-local}
use Rattle.sv_db.proofs.locals.Local.write.Goals as goal

pub returns-clause-local : goal.returns-clause-local
returns-clause-local g c =
    let self = c.args.self.now in let e = c.put.ensures in let v = self.seat.seat.me.0 in
    let w = c.put.new.seat.seat.me.0 in
    let keeps = puts-keeps self.lane c.args.name.now c.args.row c.put.result v w e.puts in
    still-local _ c.args.db.now.lanes self.lane self.handles self.pins self.seat c.put.new.seat e.same
    keeps.0 c.requires.local keeps.1
