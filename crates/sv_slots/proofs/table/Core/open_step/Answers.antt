use Rattle.std.proofs.Common.{ap, arith, sym, ◌∙◌}
use Rattle.sv_rule.specs.Views.{Bodied}
use Rattle.sv_slots.proofs.InstallLaws.{opens_at}
use Rattle.sv_slots.proofs.table.Core.open_step.Goals as goal

pub swap-requires : goal.swap-requires
swap-requires g c =
    let t = c.args.self.now.sized in let r = c.requires in (
      r.table,
      omega (arith, t.words),
      opens_at g.P.Parts.books g.P.Parts.disk g.P.Parts.cell g.P.Parts.body _ _ _ g.J.Creates.family g.J.Creates.bodied g.J.Creates.books g.J.Creates.task g.J.Creates.desk
          c.args.pack (r.pack.1 ∙ sym (ap (λ (z : Bodied). z.pack) r.pack.0)) r.desk r.may,
    )
