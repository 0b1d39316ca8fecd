use Rattle.std.proofs.Common.{arith}
use Rattle.sv_rule_slots.proofs.Frames.{frames}
use Rattle.sv_slots.proofs.table.Core.frame_step.Goals as goal

pub load-requires : goal.load-requires
load-requires g c =
    let t = c.args.self.now.sized in let r = c.requires in
    (r.table, omega (arith, t.words), frames g.P.Parts.books g.P.Parts.disk g.P.Parts.cell g.P.Parts.body _ _ _ r.lane.alive)
