use Rattle.std.proofs.Common.{◌≡◌, ◌∷◌, ◌++◌, ℕ, [], List, Option, sym, ◌∙◌, subst, arith}
use Rattle.sv_model.specs.declared.records.FileMeta.{FileMeta}
use Rattle.sv_model.specs.Books.{Books}
use Rattle.sv_model.specs.Cells.{Cell}
use Rattle.sv_state_bench.specs.Standing.{Stands, cell_of}
use Rattle.sv_state_bench.proofs.Standings.{opening}
use Rattle.sv_state_bench.proofs.bench.Bench.new.Goals as goal

pub invariant_of-result : goal.invariant_of-result
invariant_of-result c =
    let items : c.push.new.self.items ≡ cell_of [] 1 ∷ [] = c.in_ok-push.ensures.items ∙ (λ j. c.new-actives.ensures.items j ++ c.new-2.ensures j ∷ []) in
    subst (λ (z : Books × List Cell × List (Option FileMeta) × List (Option ℕ)). Stands z.0 z.1 z.2 z.3)
    (λ j. (sym c.in_ok-state.ensures.books j, sym items j, sym c.new-3.ensures.items j, sym c.new-4.ensures.items j))
    (opening c.args.next c.requires (omega (arith, c.ranges.next.fits)))
