-- The number so far is the first of the names so far.
use Rattle.std.proofs.Common.{◌≤◌, map, take}
use Rattle.std.specs.Prelude.{string_bytes}
use Rattle.sv_run.specs.Openings.{IsFirstOf}
use Rattle.sv_run.proofs.opening.number_above.Given as goal

abbrev pub invariant-loop-name : goal.invariant-loop-name
invariant-loop-name l = record {
  some : 1 ≤ l.first;
  first : IsFirstOf l.first (map string_bytes (take l.name-index l.names));
}
