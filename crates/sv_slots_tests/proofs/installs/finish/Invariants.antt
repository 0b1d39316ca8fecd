use Rattle.sv_slots_tests.proofs.installs.finish.Given as goal

abbrev pub ghosts-give_state : goal.ghosts-give_state
ghosts-give_state a = record { task = a.seat.now.seat.me.0.known.task }
