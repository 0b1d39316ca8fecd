use Rattle.std.proofs.Common.{arith}
use Rattle.sv_slots.proofs.Laws.{adds_bodied}
use Rattle.sv_slots.proofs.table.Core.add_step.Goals as goal

pub fetch_add-requires : goal.fetch_add-requires
fetch_add-requires g c =
    let t = c.args.self.now.sized in let r = c.requires in (
      r.table,
      omega (arith, t.words),
      adds_bodied g.P.Parts.books g.P.Parts.disk g.P.Parts.cell g.P.Parts.body _ _ _ c.args._lane r.lane
          c.args._of.now g.J.Embodied.bodied c.args.pack r.bodied r.pack.0 r.pack.1 r.held r.room,
    )
