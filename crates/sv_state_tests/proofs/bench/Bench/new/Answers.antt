use Rattle.std.proofs.Common.{◌≤◌, None, sym, subst, arith}
use Rattle.sv_model.specs.Books.{Books}
use Rattle.sv_state_tests.specs.Standing.{Stands}
use Rattle.sv_state_tests.proofs.Standings.{opening}
use Rattle.sv_state_tests.proofs.bench.Bench.new.Goals as goal

pub invariant_of-result : goal.invariant_of-result
invariant_of-result c =
    let low : 1 ≤ c.args.next = omega (arith, c.if-next-eq0.false) in
    let high : c.args.next ≤ 18446744073709551615 = omega (arith, c.ranges.next.fits) in
    subst (λ (z : Books). Stands z None) (sym c.in_ok-state.ensures.books) (opening c.args.next low high)
