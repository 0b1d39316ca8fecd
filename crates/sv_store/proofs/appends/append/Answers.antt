use Rattle.std.proofs.Common.{◌<◌, sym, ap, subst}
use Rattle.sv_model.specs.Books.{Books}
use Rattle.sv_store.proofs.ActiveCells.{active-at, rows-length, written-stands}
use Rattle.sv_store.proofs.CellLaws.{cell_now}
use Rattle.sv_store.proofs.appends.append.Goals as goal

pub add-requires : goal.add-requires
add-requires c =
    let h = c.requires in
    let b = c.args.state.now.books in
    let at = active-at b c.args.cells.now h.stands c.args.family h.can.serial h.can.it h.can.is_open c.args.cell h.cell_is in
    (cell_now b.journal h.can.it.descriptor.active, at, subst (λ n. n < 65536) (sym (rows-length _)) h.can.few_rows)

pub returns-clause-stands : goal.returns-clause-stands
returns-clause-stands c =
    let h = c.requires in
    let b = c.args.state.now.books in
    let at = active-at b c.args.cells.now h.stands c.args.family h.can.serial h.can.it h.can.is_open c.args.cell h.cell_is in
    written-stands b c.args.cells.now h.stands c.args.family h.can.serial h.can.it h.can.is_open c.args.cell h.cell_is
    c.write_done.new.self.books c.write_done.ensures.follows.sound c.args.row (c.write_done.ensures.written h.can) c.add.new.self
    (c.in_ok-add.ensures.added (cell_now b.journal h.can.it.descriptor.active) at)

pub returns-clause-files : goal.returns-clause-files
returns-clause-files c = ap (λ (z : Books). z.files) (c.write_done.ensures.written c.requires.can).is
