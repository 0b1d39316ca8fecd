use Rattle.sv_db.proofs.Keeping.{reads-keeps, still-local}
use Rattle.sv_db.proofs.Pinned.{pin-read}
use Rattle.sv_db.proofs.locals.Local.get_pinned.Goals as goal

pub get_through-requires-clause-sv : goal.get_through-requires-clause-sv
get_through-requires-clause-sv g c =
    pin-read c.args.self.now.pins c.args.number c.in-Some.sv.now c.args.self.now.seat.seat.me.0 c.requires.local.pins
    c.in-Some.ensures.pin

pub returns-clause-local : goal.returns-clause-local
returns-clause-local g c = let self = c.args.self.now in let e = c.get_through.ensures in
    still-local _ c.args.db.now.lanes self.lane self.handles self.pins self.seat c.get_through.new.seat e.same
    (reads-keeps 1 self.seat.seat.me.0 c.get_through.new.seat.seat.me.0 e.reads) c.requires.local e.reads.hand
