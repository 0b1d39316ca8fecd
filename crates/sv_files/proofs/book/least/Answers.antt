use Rattle.std.proofs.Common.{ℕ, ◌≤◌, List, [], ◌∷◌, Option, Some, None, arith}
use Rattle.std.proofs.lemmas.List.{at_drop_all}
use Rattle.sv_model.specs.Numbers.{least_captured}
use Rattle.sv_files.proofs.book.least.Goals as goal

least_captured-le : (captured : List (Option ℕ)) → least_captured captured ≤ 18446744073709551615
least_captured-le [] = omega arith
least_captured-le (None ∷ captured) = least_captured-le captured
least_captured-le (Some number ∷ captured) = omega (arith, least_captured-le captured)

pub loop-number-init : goal.loop-number-init
loop-number-init c = (omega (arith, least_captured-le c.args.captured.now), omega arith)

pub returns : goal.returns
returns c =
    let none = at_drop_all least_captured c.args.captured.now c.loop-number.number-index c.loop-number-test.false in
    let h = c.loop-number.invariant in omega arith
