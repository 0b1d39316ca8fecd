-- The rows so far are appended.
use Rattle.std.proofs.Common.{◌≡◌, ◌++◌, map, take}
use Rattle.sv_outputs.specs.Flushing.{moved_on}
use Rattle.sv_outputs.proofs.numbering.append_rows.Given as goal

abbrev pub invariant-loop-numbered : goal.invariant-loop-numbered
invariant-loop-numbered l = l.rows.items ≡ l.initial.rows.items ++ map (moved_on l.before) (take l.numbered-index l.frozen)
