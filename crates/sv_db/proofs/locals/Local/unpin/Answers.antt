use Rattle.std.proofs.Common.{subst, sym}
use Rattle.sv_db.proofs.Pinned.{less-free, may-drop, unpinned-local}
use Rattle.sv_db.specs.Locals.{IsLocal}
use Rattle.sv_slots.specs.Known.{table_of}
use Rattle.sv_db.proofs.locals.Local.unpin.Goals as goal

pub let_go-requires-clause-free : goal.let_go-requires-clause-free
let_go-requires-clause-free g c = less-free c.in-Some.sv.pack c.args.self.now.seat.seat.me.0 c.requires.local.rest

pub let_go-requires-clause-held : goal.let_go-requires-clause-held
let_go-requires-clause-held g c =
    may-drop c.args.self.now.pins c.args.number c.in-Some.sv c.args.self.now.seat.seat.me.0 c.requires.local.pins
    c.in-Some.ensures.pin.0

pub returns-clause-local : goal.returns-clause-local
returns-clause-local g c = let self = c.args.self.now in let e = c.let_go.ensures in
    subst (λ after. IsLocal (table_of c.args.db.now.core) c.args.db.now.lanes self.lane self.handles after c.let_go.new.seat) (sym c.in-Some.ensures.pin.1)
    (unpinned-local (table_of c.args.db.now.core) c.args.db.now.lanes self.lane self.handles self.pins self.seat c.let_go.new.seat e.same
    c.requires.local c.args.number c.in-Some.sv c.in-Some.ensures.pin.0 e.drops)
