use Rattle.std.proofs.Common.{arith}
use Rattle.sv_slots.proofs.InstallLaws.{ends_at}
use Rattle.sv_slots.proofs.table.Core.end_step.Goals as goal

pub fetch_add-requires : goal.fetch_add-requires
fetch_add-requires g c =
    let t = c.args.self.now.sized in let r = c.requires in (
      r.table,
      omega (arith, t.words),
      ends_at g.P.Parts.books g.P.Parts.disk g.P.Parts.cell g.P.Parts.body _ _ _ g.J.Ends.family g.J.Ends.books g.J.Ends.task g.J.Ends.desk r.desk r.may,
    )
