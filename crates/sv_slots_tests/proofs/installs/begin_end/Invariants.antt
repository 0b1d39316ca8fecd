use Rattle.std.proofs.Common.{[]}
use Rattle.sv_slots_tests.proofs.installs.begin_end.Given as goal

abbrev pub ghosts-no_current : goal.ghosts-no_current
ghosts-no_current g a = record { task = a.seat.now.seat.me.0.known.task; olds = [] }
