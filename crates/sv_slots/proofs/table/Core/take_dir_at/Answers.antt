use Rattle.std.proofs.Common.{arith, rules, ap, ◌∙◌}
use Rattle.sv_rule_locks.proofs.DirLocks.{takes_dir}
use Rattle.sv_slots.proofs.Laws.{took_directory}
use Rattle.sv_slots.proofs.table.Core.take_dir_at.Goals as goal

pub compare_exchange-requires : goal.compare_exchange-requires
compare_exchange-requires g c =
    let t = c.args.self.now.sized in (
      search rules,
      omega (arith, t.words),
      takes_dir g.P.Parts.books g.P.Parts.disk g.P.Parts.cell g.P.Parts.body _ _ c.loop.seat.me
          (ap (λ z. z.0.seat.spent) c.loop.invariant.4 ∙ c.requires.lane.alive),
    )

pub exchange-requires : goal.exchange-requires
exchange-requires g c =
    let x = c.compare_exchange in (
      search rules,
      (_, took_directory x.result c.loop.seat.me x.new.seat.me c.if-compare_exchange-eq0.true g.P.Parts.disk x.ensures.2),
    )
