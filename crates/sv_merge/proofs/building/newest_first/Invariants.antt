use Rattle.std.proofs.Common.{◌≡◌, map, take}
use Rattle.sv_merge.proofs.building.newest_first.Given as goal

abbrev pub invariant-loop-row : goal.invariant-loop-row
invariant-loop-row l = map (λ n. n.now) l.sorted.items ≡ take l.row-index l.rows
