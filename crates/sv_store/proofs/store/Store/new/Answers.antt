use Rattle.std.proofs.Common.{◌≤◌, ◌∙◌, arith, ap, List, Option, Some, sym, subst}
use Rattle.sv_model.specs.Books.{Books}
use Rattle.sv_model.specs.Cells.{Cell}
use Rattle.sv_store.specs.Cells.{filled}
use Rattle.sv_store.specs.Standing.{Rests}
use Rattle.sv_store.proofs.OpeningLaws.{opening-rests}
use Rattle.sv_store.proofs.store.Store.new.Goals as goal

pub invariant_of-result : goal.invariant_of-result
invariant_of-result c =
    let cells = c.fill.ensures ∙ ap (λ (l : List (Option Cell)). filled l (Some (0, 1))) c.in_ok-cells.ensures in
    let high : c.args.next ≤ 18446744073709551615 = omega (arith, c.ranges.next.fits) in
    subst (λ (z : Books × List (Option Cell)). Rests z.0 z.1) (λ i. (sym c.in_ok-state.ensures.books i, sym cells i)) (opening-rests c.args.next c.requires high)
