use Rattle.std.proofs.Common.{refl}
use Rattle.sv_slots.proofs.OpenedSeats.{opened_closes}
use Rattle.sv_slots_tests.proofs.FirstWorld.{world-begins}
use Rattle.sv_slots_tests.proofs.OpenedLanes.{opened_alone, opened_unused}
use Rattle.sv_slots_tests.proofs.openings.open.Goals as goal

pub new-requires-clause-books : goal.new-requires-clause-books
new-requires-clause-books c = (refl, world-begins)

pub returns-in-Ok-new-clause-ready : goal.returns-in-Ok-new-clause-ready
returns-in-Ok-new-clause-ready c = opened_unused _ _ _ _ c.in-Ok-new.ensures.ok

pub returns-in-Ok-new-clause-alone : goal.returns-in-Ok-new-clause-alone
returns-in-Ok-new-clause-alone c = opened_alone _ _ _ _ c.in-Ok-new.ensures.ok

pub returns-in-Ok-new-clause-whole : goal.returns-in-Ok-new-clause-whole
returns-in-Ok-new-clause-whole c = opened_closes _ _ _ _ c.requires.0 c.in-Ok-new.ensures.ok
