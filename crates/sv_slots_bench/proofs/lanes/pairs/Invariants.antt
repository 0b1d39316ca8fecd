use Rattle.std.proofs.Common.{◌-◌, ◌≡◌, ◌≤◌}
use Rattle.sv_slots.specs.Known.{view_of}
use Rattle.sv_slots_tests.specs.Unused.{CanBorrow}
use Rattle.sv_slots_bench.proofs.lanes.pairs.Given as goal

abbrev pub invariant-loop-done : goal.invariant-loop-done
invariant-loop-done l =
    (l.seat.seat.table_id ≡ l.initial.seat.seat.table_id) × CanBorrow l.family (view_of l.seat) × (l.done ≤ l.count)

abbrev pub decreases-loop-done : goal.decreases-loop-done
decreases-loop-done l = l.count - l.done
