use Rattle.std.proofs.Common.{take}
use Rattle.sv_files.specs.Kept.{AddsStrays}
use Rattle.sv_files.proofs.grabs.add_strays.Given as goal

-- the strays of the listing so far are registered
abbrev pub invariant-loop-number : goal.invariant-loop-number
invariant-loop-number l = AddsStrays l.fn.numbers l.numbers (take l.number-index l.listed) l.limit
