use Rattle.sv_slots_tests.proofs.GivenLocks.{gives_dir}
use Rattle.sv_slots_tests.proofs.lock_tests.takes_the_directory.Goals as goal

pub give_dir-requires-clause-lock : goal.give_dir-requires-clause-lock
give_dir-requires-clause-lock g c = gives_dir _ _ c.in_ok-core.ensures.unused.1 c.take_dir-dir.ensures.took
