use Rattle.std.proofs.Common.{ap, arith, sym, ℕ, ◌<◌, ◌∙◌}
use Rattle.sv_rule.specs.Table.{slot_word, spot}
use Rattle.sv_slots.proofs.InstallLaws.{passes_at}
use Rattle.sv_slots.proofs.table.Core.pass_step.Goals as goal

pub swap-requires : goal.swap-requires
swap-requires g c =
    let t = c.args.self.now.sized in let r = c.requires in
    let near : g.J.At.family < 16 = omega (arith, r.at.0, r.at.2) in
    let low : g.J.At.lane < 32 = omega (arith, r.at.1, r.at.3) in
    let is = c.slot_word_of-word.ensures
    ∙ ap (λ (z : ℕ × ℕ). slot_word (spot z.0 z.1)) (λ k. (sym r.at.1 k, sym r.at.0 k)) in (
      r.table,
      omega (arith, t.words, c.slot_word_of-word.ensures, r.at.2, r.at.3),
      passes_at g.P.Parts.books g.P.Parts.disk g.P.Parts.cell g.P.Parts.body _ _ _ g.J.At.family g.J.At.lane _ is near low g.J.At.desk g.J.At.old g.J.At.taken r.desk.0 r.desk.1
          r.desk.2 r.own.alive r.work r.front,
    )
