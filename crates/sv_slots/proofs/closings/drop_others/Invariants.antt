use Rattle.std.proofs.Common.{◌-◌}
use Rattle.std.specs.Mem.Slots.{slots_filled, slots_len}
use Rattle.sv_slots.specs.Closings.{FilledFrom}
use Rattle.sv_slots.proofs.closings.drop_others.Given as goal

abbrev pub invariant-loop-slot : goal.invariant-loop-slot
invariant-loop-slot g l = FilledFrom l.slot (slots_filled l.closed.slots) (slots_len l.closed.slots)

abbrev pub decreases-loop-slot : goal.decreases-loop-slot
decreases-loop-slot g l = slots_len l.closed.slots - l.slot
