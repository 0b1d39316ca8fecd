use Rattle.std.proofs.Common.{arith, rules}
use Rattle.sv_slots.proofs.Laws.{gives_state}
use Rattle.sv_slots.proofs.table.Core.give_state_at.Goals as goal

pub swap-requires : goal.swap-requires
swap-requires g c =
    let t = c.args.self.now.sized in (
      search rules,
      omega (arith, t.words),
      gives_state g.P.Parts.books g.P.Parts.disk g.P.Parts.cell g.P.Parts.body _ _ c.args.seat.now.me c.exchange.new.seat.me c.args.state g.J.Tasked.task c.exchange.ensures.3
          c.requires.lock,
    )
