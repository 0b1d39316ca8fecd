use Rattle.std.proofs.Common.{◌≡◌, ◌++◌, map, take}
use Rattle.sv_merge.specs.Placing.{kepts_of}
use Rattle.sv_merge.specs.Merging.{moved}
use Rattle.sv_merge.proofs.merging.with_rows.Given as goal

abbrev pub invariant-loop-kept : goal.invariant-loop-kept
invariant-loop-kept l = kepts_of l.all.items ≡ kepts_of l.fn.rows.items ++ map (moved l.cuts l.to) (take l.kept-index l.more)
