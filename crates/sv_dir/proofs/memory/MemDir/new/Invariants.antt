use Rattle.std.proofs.Common.{◌≡◌, map}
use Rattle.sv_dir.specs.MemDir.{held, all_put, entry_of}
use Rattle.sv_dir.proofs.memory.MemDir.new.Given as goal

abbrev pub invariant-loop-name : goal.invariant-loop-name
invariant-loop-name l = held l.held ≡ all_put (map entry_of l.yielded)
