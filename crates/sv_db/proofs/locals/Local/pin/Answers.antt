use Rattle.sv_db.proofs.Keeping.{asks-hand, asks-keeps, still-local}
use Rattle.sv_slots.specs.Known.{table_of}
use Rattle.sv_db.proofs.locals.Local.pin.Goals as goal

pub returns-in-None-clause-local : goal.returns-in-None-clause-local
returns-in-None-clause-local g c =
    let self = c.args.self.now in let e = c.unopened.ensures in let v = self.seat.seat.me.0 in
    let w = c.unopened.new.seat.seat.me.0 in
    still-local (table_of c.args.db.now.core) c.args.db.now.lanes self.lane self.handles self.pins self.seat c.unopened.new.seat e.same
    (asks-keeps self.lane c.args.name.now c.unopened.result v w e.asks) c.requires.local
    (asks-hand self.lane c.args.name.now c.unopened.result v w e.asks)
