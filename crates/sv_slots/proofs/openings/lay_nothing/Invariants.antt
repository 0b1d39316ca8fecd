use Rattle.std.proofs.Common.{replicate, vec_capacity, vec_len, ◌++◌, ◌+◌, ◌≡◌, ◌≤◌}
use Rattle.sv_rule.specs.declared.parts.Stored.TheVariants as is
use Rattle.sv_slots.proofs.openings.lay_nothing.Given as goal

abbrev pub invariant-loop-left : goal.invariant-loop-left
invariant-loop-left g l =
    (l.slots.items ++ replicate l.left is.Nothing ≡ l.initial.slots.items ++ replicate l.count is.Nothing)
    × (vec_len l.slots + l.left ≤ vec_capacity l.slots)

abbrev pub decreases-loop-left : goal.decreases-loop-left
decreases-loop-left g l = l.left
