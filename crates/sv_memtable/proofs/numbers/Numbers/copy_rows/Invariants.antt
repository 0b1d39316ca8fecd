use Rattle.std.proofs.Common.{◌≡◌, ◌++◌, map}
use Rattle.std.specs.List.{filter_map}
use Rattle.sv_memtable.specs.Index.{numbered_row}
use Rattle.sv_memtable.proofs.numbers.Numbers.copy_rows.Given as goal

abbrev pub invariant-loop-number : goal.invariant-loop-number
invariant-loop-number l = l.copies.items ≡ l.initial.copies.items ++ filter_map (numbered_row l.rows) (map (λ n. n.now) l.yielded)
