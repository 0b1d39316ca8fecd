use Rattle.sv_borrows.specs.Desks.{due_at}
use Rattle.sv_borrows.proofs.Vacating.{may-vacate, vacated}
use Rattle.sv_borrows.proofs.cleanups.vacate.Goals as goal

pub write_cell-requires-clause-lock : goal.write_cell-requires-clause-lock
write_cell-requires-clause-lock g c =
    let v = c.args.seat.now.seat.me.0 in
    may-vacate c.args.held.now.books (due_at v) v c.requires.desk c.args.number c.take_cell-slot.result
    c.take_cell-slot.new.seat.seat.me.0 c.take_cell-slot.ensures.took c.requires.free.1

pub returns-clause-vacated : goal.returns-clause-vacated
returns-clause-vacated g c =
    let v = c.args.seat.now.seat.me.0 in
    vacated c.args.held.now.books (due_at v) v c.requires.desk c.args.number c.take_cell-slot.result
    c.take_cell-slot.new.seat.seat.me.0 c.take_cell-slot.ensures.took c.write_cell.new.seat.seat.me.0
    c.write_cell.ensures.wrote
