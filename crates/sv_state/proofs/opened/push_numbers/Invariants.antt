use Rattle.std.proofs.Common.{◌≡◌, ◌++◌, map, take}
use Rattle.sv_state.specs.Openings.{numbered}
use Rattle.sv_state.proofs.opened.push_numbers.Given as goal

abbrev pub invariant-loop-file : goal.invariant-loop-file
invariant-loop-file l = l.numbers.items ≡ l.initial.numbers.items ++ map (numbered l.family) (take l.file-index l.files)
