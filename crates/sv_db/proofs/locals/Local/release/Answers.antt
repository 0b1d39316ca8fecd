use Rattle.sv_db.proofs.Handled.{closed-own, no-zero, refused-local, released-local}
use Rattle.sv_slots.specs.Known.{table_of}
use Rattle.sv_db.proofs.locals.Local.release.Goals as goal

pub release-requires-clause-hand : goal.release-requires-clause-hand
release-requires-clause-hand g c = let self = c.args.self.now in no-zero self.pins self.seat.seat.me.0 c.requires.local.pins

pub returns-in_err-release-clause-local : goal.returns-in_err-release-clause-local
returns-in_err-release-clause-local g c = let self = c.args.self.now in
    refused-local (table_of c.args.db.now.core) c.args.db.now.lanes self.lane self.handles self.pins self.seat
    c.release.new.seat c.release.ensures.same c.requires.local c.args.name.now c.in_err-release.field-0.0
    c.in_err-release.ensures.releases

pub returns-clause-local : goal.returns-clause-local
returns-clause-local g c = let self = c.args.self.now in
    released-local (table_of c.args.db.now.core) c.args.db.now.lanes self.lane self.handles self.pins self.seat
    c.release.new.seat c.release.ensures.same c.requires.local c.args.name.now c.in_ok-release.ensures.releases
    c.close_handle.new.handles
    (closed-own (table_of c.args.db.now.core) c.args.db.now.lanes self.lane self.handles self.pins self.seat
    c.release.new.seat c.release.ensures.same c.requires.local c.args.name.now c.in_ok-release.ensures.releases
    c.close_handle.new.handles c.close_handle.ensures.closed)

pub returns-clause-closes : goal.returns-clause-closes
returns-clause-closes g c = let self = c.args.self.now in
    closed-own (table_of c.args.db.now.core) c.args.db.now.lanes self.lane self.handles self.pins self.seat
    c.release.new.seat c.release.ensures.same c.requires.local c.args.name.now c.in_ok-release.ensures.releases
    c.close_handle.new.handles c.close_handle.ensures.closed
