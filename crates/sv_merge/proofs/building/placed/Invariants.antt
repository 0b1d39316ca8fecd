use Rattle.std.proofs.Common.{◌≡◌, map, take}
use Rattle.sv_merge.specs.Placing.{kepts_of}
use Rattle.sv_merge.specs.Building.{placed}
use Rattle.sv_merge.proofs.building.placed.Given as goal

abbrev pub invariant-loop-numbered : goal.invariant-loop-numbered
invariant-loop-numbered l = kepts_of l.all.items ≡ map (placed l.cuts l.to) (map (λ n. n.now) (take l.numbered-index l.rows))
