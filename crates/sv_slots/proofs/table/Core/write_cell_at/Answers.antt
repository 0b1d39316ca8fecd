use Rattle.std.proofs.Common.{arith, rules, sym, ◌∙◌, ◌<◌}
use Rattle.sv_slots.proofs.Laws.{desk_is_of, writes_at}
use Rattle.sv_slots.proofs.table.Core.write_cell_at.Goals as goal

pub swap-requires : goal.swap-requires
swap-requires g c =
    let t = c.args.self.now.sized in let word = c.cell_word_of-word in let r = c.requires in
    let m = c.args.seat.now.me in
    let few : g.J.Writes.cell < 64 = omega (arith, r.cell.0, r.cell.1) in (
      search rules,
      omega (arith, t.words, r.cell.1, word.ensures),
      writes_at g.P.Parts.books g.P.Parts.disk g.P.Parts.cell g.P.Parts.body _ _ m c.exchange.new.seat.me g.J.Writes.cell word.result g.J.Writes.books g.J.Writes.task
          g.J.Writes.more g.J.Writes.family g.J.Writes.seen c.args.cell g.J.Writes.desk
          (omega (arith, word.ensures, r.cell.0)) few r.lock
          (sym (desk_is_of m.0 r.lock.desk r.lock.has) ∙ sym r.books.1) c.exchange.ensures.3,
    )
