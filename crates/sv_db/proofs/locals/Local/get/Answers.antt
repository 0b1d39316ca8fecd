use Rattle.sv_db.proofs.Keeping.{asks-hand, asks-keeps, goes-keeps, still-local}
use Rattle.sv_db.proofs.locals.Local.get.Goals as goal

pub returns-in-Some-clause-local : goal.returns-in-Some-clause-local
returns-in-Some-clause-local g c =
    let self = c.args.self.now in let e = c.get_of.ensures in
    still-local _ c.args.db.now.lanes self.lane self.handles self.pins self.seat c.get_of.new.seat e.same
    (goes-keeps c.in-Some.family self.seat.seat.me.0 c.get_of.new.seat.seat.me.0 e.goes) c.requires.local e.goes.hand

pub returns-in-None-clause-local : goal.returns-in-None-clause-local
returns-in-None-clause-local g c =
    let self = c.args.self.now in let e = c.unopened.ensures in let v = self.seat.seat.me.0 in
    let w = c.unopened.new.seat.seat.me.0 in
    still-local _ c.args.db.now.lanes self.lane self.handles self.pins self.seat c.unopened.new.seat e.same
    (asks-keeps self.lane c.args.name.now c.unopened.result v w e.asks) c.requires.local
    (asks-hand self.lane c.args.name.now c.unopened.result v w e.asks)
