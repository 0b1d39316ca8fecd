use Rattle.std.proofs.Common.{◌-◌}
use Rattle.sv_table.specs.Views.{header_is}
use Rattle.sv_table.proofs.PlaceText.{Narrowed}
use Rattle.sv_table.proofs.places.ahead_of.Given as goal

abbrev pub invariant-loop-low : goal.invariant-loop-low
invariant-loop-low l = Narrowed (header_is l.header) l.bytes l.places l.key l.cut l.low l.high

abbrev pub decreases-loop-low : goal.decreases-loop-low
decreases-loop-low l = l.high - l.low
