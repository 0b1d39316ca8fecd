use Rattle.std.proofs.Common.{arith}
use Rattle.sv_rule_slots.proofs.RoundAdds.{rounds}
use Rattle.sv_slots.proofs.table.Core.round_step.Goals as goal

pub fetch_add-requires : goal.fetch_add-requires
fetch_add-requires g c =
    let t = c.args.self.now.sized in let r = c.requires in (
      r.table,
      omega (arith, t.words),
      rounds g.P.Parts.books g.P.Parts.disk g.P.Parts.cell g.P.Parts.body _ _ _ g.J.Begun.family g.J.Begun.desk r.lane.alive r.desk.0 r.desk.1,
    )
