use Rattle.std.proofs.Common.{arith, sym}
use Rattle.sv_slots.proofs.InstallLaws.{settles_at}
use Rattle.sv_slots.proofs.table.Core.settle_step.Goals as goal

pub swap-requires : goal.swap-requires
swap-requires g c =
    let t = c.args.self.now.sized in let r = c.requires in (
      r.table,
      omega (arith, t.words),
      settles_at g.P.Parts.books g.P.Parts.disk g.P.Parts.cell g.P.Parts.body _ _ _ g.J.Cleans.pack c.args.pack g.J.Cleans.books g.J.Cleans.task g.J.Cleans.cells g.J.Cleans.desk
          (sym r.pack) r.desk r.may,
    )
