use Rattle.std.proofs.Common.{arith, sym}
use Rattle.sv_slots.proofs.InstallLaws.{numbers_at}
use Rattle.sv_slots.proofs.table.Core.number_step.Goals as goal

pub swap-requires : goal.swap-requires
swap-requires g c =
    let t = c.args.self.now.sized in let r = c.requires in (
      r.table,
      omega (arith, t.words, c.from.ensures, r.family.1),
      numbers_at g.P.Parts.books g.P.Parts.disk g.P.Parts.cell g.P.Parts.body _ _ _ g.J.Swaps.family g.J.Swaps.pack _ c.args.pack g.J.Swaps.olds g.J.Swaps.desk
          (omega (arith, c.from.ensures, r.family.0)) (sym r.pack) r.desk r.may,
    )
