use Rattle.std.proofs.Common.{◌≡◌, map, reverse}
use Rattle.sv_merge.specs.Placing.{kepts_of, thinned}
use Rattle.sv_merge.proofs.placing.thinned.Given as goal

abbrev pub invariant-loop-placed : goal.invariant-loop-placed
invariant-loop-placed l = reverse l.kept.items ≡ thinned l.last (kepts_of (reverse (map (λ p. p.now) l.yielded)))
