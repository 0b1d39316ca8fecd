use Rattle.std.proofs.Common.{arith}
use Rattle.sv_rule_slots.proofs.References.{subs_at}
use Rattle.sv_slots.proofs.table.Core.subtract_step.Goals as goal

pub fetch_sub-requires : goal.fetch_sub-requires
fetch_sub-requires g c =
    let t = c.args.self.now.sized in let r = c.requires in (
      r.table,
      omega (arith, t.words),
      subs_at g.P.Parts.books g.P.Parts.disk g.P.Parts.cell g.P.Parts.body _ _ _ c.args.pack g.J.Named.pack r.pack.0
          r.pack.1 r.lane.alive r.held r.may,
    )
