use Rattle.sv_turns.specs.Owned.{opens_family}
use Rattle.sv_handles.proofs.families.open_family.Given as goal

abbrev pub ghosts-give_opened : goal.ghosts-give_opened
ghosts-give_opened g a = record { task = opens_family a._family a.seat.now.seat.me.0.known.task }

abbrev pub ghosts-give_state : goal.ghosts-give_state
ghosts-give_state g a = record { task = a.seat.now.seat.me.0.known.task }
