use Rattle.std.proofs.Common.{arith, ◌+◌, ◌<◌, ◌≡◌}
use Rattle.sv_rule.specs.Table.{number_word}
use Rattle.sv_slots.proofs.Laws.{looks_at}
use Rattle.sv_slots.proofs.table.Core.look_step.Goals as goal

pub load-requires : goal.load-requires
load-requires g c =
    let t = c.args.self.now.sized in let r = c.requires in
    let near : g.J.Placed.family < 16 = omega (arith, r.family.0, r.family.1) in
    let is : 66 + c.from.result ≡ number_word g.J.Placed.family = omega (arith, r.family.0, c.from.ensures) in (
      r.table,
      omega (arith, t.words, c.from.ensures, r.family.1),
      looks_at g.P.Parts.books g.P.Parts.disk g.P.Parts.cell g.P.Parts.body _ _ _ c.args._lane g.J.Placed.family _ r.lane
          near is,
    )
