-- The rows of the memtables so far.
use Rattle.std.proofs.Common.{take}
use Rattle.std.specs.List.Sorted.{IsPermutation}
use Rattle.sv_model.specs.Flat.{numbered_after}
use Rattle.sv_outputs.specs.Flushing.{rows_in}
use Rattle.sv_outputs.proofs.numbering.all_rows.Given as goal

abbrev pub invariant-loop-member : goal.invariant-loop-member
invariant-loop-member l = IsPermutation (numbered_after l.from (rows_in (take l.member-index l.frozen))) l.rows.items
