use Rattle.std.proofs.Common.{◌≡◌, fold, map, max, take}
use Rattle.sv_script.proofs.parsing.reading.lanes_of.Given as goal

abbrev pub invariant-loop-line : goal.invariant-loop-line
invariant-loop-line l = l.most ≡ fold max 1 (map (λ line. line.lane) (take l.line-index l.lines))
