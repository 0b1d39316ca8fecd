use Rattle.std.proofs.Common.{◌≡◌, ◌≤◌, length, take}
use Rattle.sv_files.proofs.grabs.cut_back.Given as goal

-- the numbers are the first ones, and enough
abbrev pub invariant-loop-numbers : goal.invariant-loop-numbers
invariant-loop-numbers l = (l.stay ≤ length l.numbers) × (l.numbers ≡ take (length l.numbers) l.fn.numbers)

abbrev pub decreases-loop-numbers : goal.decreases-loop-numbers
decreases-loop-numbers l = length l.numbers
