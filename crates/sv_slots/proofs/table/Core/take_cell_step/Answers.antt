use Rattle.std.proofs.Common.{arith}
use Rattle.sv_slots.proofs.Laws.{takes_at}
use Rattle.sv_slots.proofs.table.Core.take_cell_step.Goals as goal

pub compare_exchange-requires : goal.compare_exchange-requires
compare_exchange-requires g c =
    let t = c.args.self.now.sized in let r = c.requires in (
      r.table,
      omega (arith, t.words, r.cell.1, c.cell_word_of-word.ensures),
      takes_at g.P.Parts.books g.P.Parts.disk g.P.Parts.cell g.P.Parts.body _ _ c.args.seat.now.me c.args.cell g.J.Celled.cell c.cell_word_of-word.result r.cell.0
          c.cell_word_of-word.ensures r.cell.1 r.lane.alive r.free,
    )
