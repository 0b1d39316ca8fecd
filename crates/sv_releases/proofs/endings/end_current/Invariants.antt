use Rattle.std.proofs.Common.{[]}
use Rattle.sv_turns.specs.Owned.{releases}
use Rattle.sv_releases.proofs.endings.end_current.Given as goal

abbrev pub ghosts-show_none : goal.ghosts-show_none
ghosts-show_none g a = record { task = releases a.family a.seat.now.seat.me.0.known.task; olds = [] }
