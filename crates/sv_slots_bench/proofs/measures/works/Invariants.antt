use Rattle.std.proofs.Common.{length, vec_len, ◌≤◌}
use Rattle.std.specs.Prelude.{All}
use Rattle.sv_slots.specs.Known.{table_of}
use Rattle.sv_slots_bench.specs.Ready.{IsReady}
use Rattle.sv_slots_tests.specs.Unused.{AreUnused}
use Rattle.sv_slots_bench.proofs.measures.works.Given as goal

abbrev pub invariant-loop-seat : goal.invariant-loop-seat
invariant-loop-seat l =
    AreUnused (table_of l._core) l.seats.items × (length l.seats.items ≤ 4)
    × All (IsReady (table_of l._core)) l.works.items

abbrev pub decreases-loop-seat : goal.decreases-loop-seat
decreases-loop-seat l = vec_len l.seats
