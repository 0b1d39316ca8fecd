-- No frozen memtable after those that are left has a row of the key at or below the cut, and theirs end before it.
use Rattle.std.proofs.Common.{◌≡◌, ◌≤◌, ◌-◌, ◌++◌, ℕ, List, None, length, take}
use Rattle.sv_model.specs.Cells.{Cell}
use Rattle.sv_model.specs.Journal.{newest_op}
use Rattle.sv_objects.specs.Shown.{shown}
use Rattle.sv_reads.specs.Parts.{rows_in}
use Rattle.sv_reads.proofs.memory.find_frozen.Given as goal

abbrev pub invariant-loop-left : goal.invariant-loop-left
invariant-loop-left l = record {
  newer : List (ℕ × Cell);
  stands : shown l.body.frozen ≡ shown l.left ++ newer;
  ends : l.end ≡ l.body.descriptor.base - length (rows_in newer);
  passed : length (rows_in newer) ≤ l.body.descriptor.base
      → newest_op l.key (take (l.cut - l.end) (rows_in newer)) ≡ None;
}

abbrev pub decreases-loop-left : goal.decreases-loop-left
decreases-loop-left l = length l.left
