use Rattle.std.proofs.Common.{◌≡◌, map}
use Rattle.std.specs.List.{flat_map}
use Rattle.sv_merge.specs.Placing.{kepts_of}
use Rattle.sv_merge.specs.Merging.{moved}
use Rattle.sv_merge.proofs.merging.gathered.Given as goal

abbrev pub invariant-loop-table : goal.invariant-loop-table
invariant-loop-table l = kepts_of l.rows.items ≡ map (moved l.cuts l.to) (flat_map (λ t. t.rows) (map (λ t. t.now) l.yielded))
