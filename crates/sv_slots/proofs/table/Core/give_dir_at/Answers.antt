use Rattle.std.proofs.Common.{arith, rules}
use Rattle.sv_slots.proofs.Laws.{gives_directory}
use Rattle.sv_slots.proofs.table.Core.give_dir_at.Goals as goal

pub swap-requires : goal.swap-requires
swap-requires g c =
    let t = c.args.self.now.sized in let j = g.J.Reports in (
      search rules,
      omega (arith, t.words),
      gives_directory g.P.Parts.books g.P.Parts.disk g.P.Parts.cell g.P.Parts.body _ _ c.args.seat.now.me c.exchange.new.seat.me c.args.dir g.J.Reports.task g.J.Reports.reads
          g.J.Reports.names g.J.Reports.lists g.J.Reports.rise c.exchange.ensures.3 c.requires.lock,
    )
