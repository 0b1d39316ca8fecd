use Rattle.std.proofs.Common.{arith}
use Rattle.sv_slots_tests.proofs.OpenedLanes.{of-first, of-rest}
use Rattle.sv_slots_tests.specs.Unused.{IsAlone, IsUnused}
use Rattle.sv_slots_tests.proofs.lanes.double.Goals as goal

pub returns-clause-first : goal.returns-clause-first
returns-clause-first c = (
  of-first (IsUnused _) _ _ (omega (arith, c.in_ok-core.ensures.count)) c.remove-first.ensures.value
      c.in_ok-core.ensures.ready,
  of-first (IsAlone 2) _ _ (omega (arith, c.in_ok-core.ensures.count)) c.remove-first.ensures.value
      c.in_ok-core.ensures.alone,
)

pub returns-clause-second : goal.returns-clause-second
returns-clause-second c =
    let first = c.remove-first in let second = c.remove-second in (
      of-first (IsUnused _) _ _ (omega (arith, c.in_ok-core.ensures.count, first.ensures.len)) second.ensures.value
          (of-rest (IsUnused _) _ _ _ (omega (arith, c.in_ok-core.ensures.count)) first.ensures.value first.ensures.items
          c.in_ok-core.ensures.ready),
      of-first (IsAlone 2) _ _ (omega (arith, c.in_ok-core.ensures.count, first.ensures.len)) second.ensures.value
          (of-rest (IsAlone 2) _ _ _ (omega (arith, c.in_ok-core.ensures.count)) first.ensures.value first.ensures.items
          c.in_ok-core.ensures.alone),
    )
