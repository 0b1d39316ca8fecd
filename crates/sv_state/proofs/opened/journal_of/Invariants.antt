use Rattle.std.proofs.Common.{◌≡◌, [], take}
use Rattle.sv_state.specs.Openings.{opening_writes}
use Rattle.sv_state.proofs.opened.journal_of.Given as goal

abbrev pub invariant-loop-id : goal.invariant-loop-id
invariant-loop-id l = record {
  writes : l.journal.writes ≡ opening_writes 0 (take l.id l.kept);
  snapshots : l.journal.snapshots ≡ [];
}
