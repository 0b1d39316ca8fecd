use Rattle.std.proofs.Common.{arith}
use Rattle.std.proofs.lemmas.List.{length-map}
use Rattle.sv_db.specs.Locals.{IsLocal}
use Rattle.sv_slots.specs.Known.{table_of}
use Rattle.sv_slots_tests.proofs.OpenedLanes.{of-first, of-rest}
use Rattle.sv_db_tests.proofs.lanes.double.Goals as goal

pub returns-clause-first : goal.returns-clause-first
returns-clause-first c =
    let it = c.in-Ok.ensures in let l = c.in-Ok.locals.items in
    of-first (λ x. IsLocal (table_of c.in-Ok.db.core) c.in-Ok.db.lanes x.lane x.handles x.pins x.seat) l _
    (omega (arith, it.opened.count, length-map l (λ x. x.seat))) c.remove-first.ensures.value it.local

pub returns-clause-second : goal.returns-clause-second
returns-clause-second c =
    let it = c.in-Ok.ensures in let l = c.in-Ok.locals.items in let first = c.remove-first.ensures in
    of-first (λ x. IsLocal (table_of c.in-Ok.db.core) c.in-Ok.db.lanes x.lane x.handles x.pins x.seat) _ _ (omega (arith, it.opened.count, length-map l (λ x. x.seat), first.len)) c.remove-second.ensures.value
    (of-rest (λ x. IsLocal (table_of c.in-Ok.db.core) c.in-Ok.db.lanes x.lane x.handles x.pins x.seat) l _ _ (omega (arith, it.opened.count, length-map l (λ x. x.seat))) first.value first.items it.local)
