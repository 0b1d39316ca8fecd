use Rattle.sv_sets.proofs.sets.set_option.Given as goal

abbrev pub ghosts-give_state : goal.ghosts-give_state
ghosts-give_state g a = record { task = a.seat.now.seat.me.0.known.task }
