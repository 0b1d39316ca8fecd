use Rattle.std.proofs.Common.{◌≡◌, map, take}
use Rattle.sv_files.specs.Calls.{grab}
use Rattle.sv_files.proofs.grabs.grab_all.Given as goal

-- what was found so far is Grabbed
abbrev pub invariant-loop-number : goal.invariant-loop-number
invariant-loop-number l = l.numbers ≡ map (grab (take l.number-index l.found)) l.fn.numbers
