-- What a thread of the bench is handed.
use Rattle.std.specs.Prelude.{◌<◌, ℕ}
use Rattle.atomic_table.specs.Seated.{TableId}
use Rattle.sv_slots_bench.specs.declared.lanes.Work.{Work}
use Rattle.sv_slots_tests.specs.Unused.{IsUnused}

-- the lane has nothing, and its family is one of the four
pub record IsReady (t : TableId) (w : Work) : Type 0 where
  pub unused : IsUnused t w.seat
  pub family : w.family < 4
