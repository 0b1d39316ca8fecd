use Rattle.sv_puts.proofs.ActiveCells.{active-within, finds-active}
use Rattle.sv_puts.proofs.cells.take_active.Goals as goal

pub take_cell-requires-clause-free : goal.take_cell-requires-clause-free
take_cell-requires-clause-free g c =
    let d = c.requires.desk in
    (active-within c.args._held.now.books d.own.lawful c.args._family c.args.number c.requires.active, d.cell)

pub returns-clause-found : goal.returns-clause-found
returns-clause-found g c h =
    finds-active c.args._held.now.books c.args.seat.now.seat.me.0 c.requires.desk c.args._family c.args.number h
    c.take_cell.result c.take_cell.ensures.books
