use Rattle.std.proofs.Common.{arith, refl}
use Rattle.sv_db.proofs.OpenedBooks.{are-first, first-more, first-one}
use Rattle.sv_db.proofs.openings.first_cells.Goals as goal

pub loop-cells-init : goal.loop-cells-init
loop-cells-init c =
    let first = c.in_ok-push.ensures in (
      omega (arith, first.len, c.new-cells.ensures.len),
      omega (arith, first.len, c.new-cells.ensures.len),
      first-one c.new-cells.result.items c.push.new.self.items c.in_ok-first_slot.field-0 c.new-cells.ensures.items
          c.in_ok-first_slot.ensures first.items,
    )

pub loop-cells-preserved : goal.loop-cells-preserved
loop-cells-preserved c =
    let more = c.in_ok-push-2.ensures in let before = c.loop-cells.invariant in (
      omega (arith, more.len),
      omega (arith, more.len, c.len.ensures, c.loop-cells-test.true),
      first-more c.loop-cells.cells.items c.push-in-loop-cells.new.self.items _ before.2 before.0 refl more.items,
    )

pub returns : goal.returns
returns c =
    let all = c.loop-cells.invariant in
    are-first c.loop-cells.cells.items (omega (arith, all.1, c.len.ensures, c.loop-cells-test.false)) all.2
