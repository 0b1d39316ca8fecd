use Rattle.std.proofs.Common.{◌≡◌, map, string_bytes}
use Rattle.sv_dir.proofs.memory.names_of.Given as goal

abbrev pub invariant-loop-name : goal.invariant-loop-name
invariant-loop-name l = map string_bytes l.names.items ≡ map (λ name. string_bytes name.now) l.yielded
