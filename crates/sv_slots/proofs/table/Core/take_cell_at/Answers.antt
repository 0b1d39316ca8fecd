use Rattle.std.proofs.Common.{ap, rules, ◌∙◌, ◌∷◌}
use Rattle.atomic_table.specs.Table.{rest}
use Rattle.sv_slots.proofs.Laws.{finds_books, found_cell}
use Rattle.sv_slots.proofs.table.Core.take_cell_at.Goals as goal

pub exchange-requires : goal.exchange-requires
exchange-requires g c =
    let x = c.take_cell_step in (
      search rules,
      (
        _,
        found_cell x.result c.loop.seat.me x.new.seat.me c.if-take_cell_step-eq0.true g.P.Parts.cell c.args.cell
            c.cell_word_of-slot.result x.ensures.took c.cell_word_of-slot.ensures,
      ),
    )

pub returns-then-take_cell_step-eq0-clause-books : goal.returns-then-take_cell_step-eq0-clause-books
returns-then-take_cell_step-eq0-clause-books g c =
    let x = c.take_cell_step in let slot = c.cell_word_of-slot in
    finds_books g.P.Parts.cell c.args.cell slot.result x.result c.loop.seat.me c.args.seat.now.me x.new.seat.me
    x.ensures.took c.if-take_cell_step-eq0.true slot.ensures c.loop.invariant.4 c.in-Cell.found
    (c.exchange.ensures.2 ∙ ap (λ y. (slot.result, y) ∷ rest x.new.seat.me.1) c.in-Cell.is)
