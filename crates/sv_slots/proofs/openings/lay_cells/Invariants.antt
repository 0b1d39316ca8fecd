use Rattle.std.proofs.Common.{map, vec_capacity, vec_len, ◌++◌, ◌+◌, ◌≡◌}
use Rattle.sv_rule.specs.declared.parts.Stored.TheVariants as is
use Rattle.sv_slots.proofs.openings.lay_cells.Given as goal

abbrev pub invariant-loop-cells : goal.invariant-loop-cells
invariant-loop-cells g l =
    (l.slots.items ++ map (λ c. is.Cell c) l.cells.items ≡ l.initial.slots.items ++ map (λ c. is.Cell c) l.initial.cells.items)
    × (vec_len l.slots + vec_len l.cells ≡ vec_len l.initial.slots + vec_len l.initial.cells)
    × (vec_capacity l.slots ≡ vec_capacity l.initial.slots)

abbrev pub decreases-loop-cells : goal.decreases-loop-cells
decreases-loop-cells g l = vec_len l.cells
