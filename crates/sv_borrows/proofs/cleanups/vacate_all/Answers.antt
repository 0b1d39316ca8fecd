use Rattle.std.proofs.Common.{List, refl, rules, subst, ℕ, ◌<◌, ◌∙◌}
use Rattle.sv_borrows.proofs.Vacating.{IsVacating, begins-vacating, ends-vacating, goes-on-vacating}
use Rattle.sv_rule.specs.Held.{Free}
use Rattle.sv_slots.proofs.Rows.{every-before, every-last}
use Rattle.sv_borrows.proofs.cleanups.vacate_all.Goals as goal

pub loop-number-init : goal.loop-number-init
loop-number-init g c = (
  (refl, refl),
  c.requires.free,
  begins-vacating c.args.held.now.books c.args.seat.now.seat.me.0 c.requires.desk c.args.cells.items c.requires.due,
)

pub vacate-requires-clause-free : goal.vacate-requires-clause-free
vacate-requires-clause-free g c =
    every-last (λ c₁. (c₁ < 64) × Free c.args.held.now.books.memtables c₁) c.pop.new.self.items c.loop-number.cells.items
    c.in-Some.number c.in-Some.ensures.items c.loop-number.invariant.1

pub loop-number-preserved : goal.loop-number-preserved
loop-number-preserved g c =
    let inv = c.loop-number.invariant in let e = c.in-Some.ensures.items in (
      (c.vacate.ensures.same.0 ∙ inv.0.0, c.vacate.ensures.same.1 ∙ inv.0.1),
      every-before (λ c₁. (c₁ < 64) × Free c.args.held.now.books.memtables c₁) c.pop.new.self.items
          c.loop-number.cells.items c.in-Some.number e inv.1,
      goes-on-vacating c.args.held.now.books c.args.seat.now.seat.me.0 c.requires.desk c.loop-number.cells.items
          c.loop-number.seat.seat.me.0 inv.2 c.pop.new.self.items c.in-Some.number e c.vacate.new.seat.seat.me.0
          c.vacate.ensures.vacated,
    )

pub returns-clause-vacated : goal.returns-clause-vacated
returns-clause-vacated g c =
    ends-vacating c.args.held.now.books c.args.seat.now.seat.me.0 c.requires.desk c.loop-number.seat.seat.me.0
    (subst (λ (l : List ℕ). IsVacating c.args.held.now.books c.args.seat.now.seat.me.0 l c.loop-number.seat.seat.me.0)
    (search rules) c.loop-number.invariant.2)
