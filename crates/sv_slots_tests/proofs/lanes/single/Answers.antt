use Rattle.std.proofs.Common.{arith}
use Rattle.sv_slots_tests.proofs.OpenedLanes.{of-first}
use Rattle.sv_slots_tests.specs.Unused.{IsAlone, IsUnused}
use Rattle.sv_slots_tests.proofs.lanes.single.Goals as goal

pub returns-clause-unused : goal.returns-clause-unused
returns-clause-unused c =
    of-first (IsUnused _) _ _ (omega (arith, c.in_ok-core.ensures.count)) c.remove-seat.ensures.value
    c.in_ok-core.ensures.ready

pub returns-clause-alone : goal.returns-clause-alone
returns-clause-alone c =
    of-first (IsAlone 1) _ _ (omega (arith, c.in_ok-core.ensures.count)) c.remove-seat.ensures.value
    c.in_ok-core.ensures.alone
