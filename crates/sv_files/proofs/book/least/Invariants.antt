use Rattle.std.proofs.Common.{◌≡◌, ◌≤◌, min, drop}
use Rattle.sv_model.specs.Numbers.{least_captured}
use Rattle.sv_files.proofs.book.least.Given as goal

-- the least so far, and the least of those still to come
abbrev pub invariant-loop-number : goal.invariant-loop-number
invariant-loop-number l =
    (min l.bound (least_captured (drop l.number-index l.captured)) ≡ least_captured l.captured) × (l.bound ≤ 18446744073709551615)
