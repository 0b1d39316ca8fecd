use Rattle.std.proofs.Common.{ap, arith, sym, ◌<◌, ◌∙◌}
use Rattle.sv_rule.specs.Table.{slot_word, spot}
use Rattle.sv_slots.proofs.Laws.{rests_at}
use Rattle.sv_slots.proofs.table.Core.rest_step.Goals as goal

pub swap-requires : goal.swap-requires
swap-requires g c =
    let t = c.args.self.now.sized in let r = c.requires in
    let near : g.J.Placed.family < 16 = omega (arith, r.family.0, r.family.1) in
    let is = c.slot_word_of-word.ensures ∙ ap (λ z. slot_word (spot c.args.lane z)) (sym r.family.0) in (
      r.table,
      omega (arith, t.words, c.slot_word_of-word.ensures, r.lane.low, r.family.1),
      rests_at g.P.Parts.books g.P.Parts.disk g.P.Parts.cell g.P.Parts.body _ _ _ c.args.lane g.J.Placed.family _ r.lane
          near is g.K.Named.pack g.L.Counting.count r.held r.room r.front,
    )
