use Rattle.std.proofs.Common.{◌<◌, ℕ, List, Option, get_or, length, take, subst, sym, arith}
use Rattle.sv_model.specs.Cells.{Cell}
use Rattle.sv_store.specs.Cells.{Vacated}
use Rattle.sv_store.proofs.CellLaws.{vacated-more, vacated-none}
use Rattle.sv_store.proofs.VacantCells.{low-at, take-next, take-whole}
use Rattle.sv_store.proofs.cells.Cells.vacate.Goals as goal

pub loop-cell-init : goal.loop-cell-init
loop-cell-init c = vacated-none c.args.self.now

pub empty-requires : goal.empty-requires
empty-requires c = low-at c.args.gone.now c.requires c.loop-cell.cell-index (omega (arith, c.loop-cell-test.true))

pub loop-cell-preserved : goal.loop-cell-preserved
loop-cell-preserved c =
    let l = c.args.gone.now in
    let i = c.loop-cell.cell-index in
    let lt : i < length l = omega (arith, c.loop-cell-test.true) in
    let low = low-at l c.requires i lt in
    let more = vacated-more (take i l) c.args.self.now c.loop-cell.self c.loop-cell.invariant (get_or l i 0) (subst (λ n. get_or l i 0 < n) (sym c.empty.ensures.many) low) in
    subst (λ (z : List ℕ × List (Option Cell)). Vacated z.0 c.args.self.now z.1) (λ j. (take-next l i lt j, sym c.empty.ensures.emptied j)) more

pub returns : goal.returns
returns c =
    let l = c.args.gone.now in
    subst (λ (z : List ℕ). Vacated z c.args.self.now c.loop-cell.self) (take-whole l c.loop-cell.cell-index (omega (arith, c.loop-cell-test.false))) c.loop-cell.invariant
