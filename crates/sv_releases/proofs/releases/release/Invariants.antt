use Rattle.sv_releases.proofs.Releasing.{task_left}
use Rattle.sv_releases.proofs.releases.release.Given as goal

abbrev pub ghosts-give_state : goal.ghosts-give_state
ghosts-give_state g a = record { task = task_left a.state.books a.seat.now.seat.me.0 }
