-- What contracts see of the journal.
use Rattle.std.specs.Prelude.{ℕ, List}
use Rattle.sv_model.specs.declared.writes.Write.{Write}
use Rattle.sv_model.specs.declared.records.Snapshot.{Snapshot}

pub record JournalSeen : Type 0 where
  pub writes : List Write
  -- every snapshot ever made, by its number from 1
  pub snapshots : List Snapshot
  -- for how many more writes there is room
  pub spare : ℕ
