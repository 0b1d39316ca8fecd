use Rattle.std.proofs.Common.{[]}
use Rattle.sv_slots_tests.proofs.installs.clean.Given as goal

abbrev pub ghosts-settle : goal.ghosts-settle
ghosts-settle g a = record { task = a.seat.now.seat.me.0.known.task; cells = [] }

abbrev pub ghosts-give_state : goal.ghosts-give_state
ghosts-give_state g a = record { task = a.seat.now.seat.me.0.known.task }
