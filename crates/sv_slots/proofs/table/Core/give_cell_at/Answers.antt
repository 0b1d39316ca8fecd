use Rattle.std.proofs.Common.{arith, rules}
use Rattle.sv_slots.proofs.Laws.{gives_at}
use Rattle.sv_slots.proofs.table.Core.give_cell_at.Goals as goal

pub swap-requires : goal.swap-requires
swap-requires g c =
    let t = c.args.self.now.sized in let word = c.cell_word_of-word in (
      search rules,
      omega (arith, t.words, c.requires.cell, word.ensures),
      gives_at g.P.Parts.books g.P.Parts.disk g.P.Parts.cell g.P.Parts.body _ _ c.args.seat.now.me c.exchange.new.seat.me c.args.number word.result g.J.Cuts.family
          g.J.Cuts.cut c.args.cell word.ensures c.requires.cell c.requires.lock c.exchange.ensures.3,
    )
