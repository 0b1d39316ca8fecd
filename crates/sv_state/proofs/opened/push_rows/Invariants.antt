use Rattle.std.proofs.Common.{◌≡◌, ◌++◌, map, take}
use Rattle.sv_state.specs.Openings.{opening_write}
use Rattle.sv_state.proofs.opened.push_rows.Given as goal

abbrev pub invariant-loop-row : goal.invariant-loop-row
invariant-loop-row l = record {
  writes : l.journal.writes ≡ l.initial.journal.writes ++ map (opening_write l.family) (take l.row-index l.rows);
  snapshots : l.journal.snapshots ≡ l.initial.journal.snapshots;
}
