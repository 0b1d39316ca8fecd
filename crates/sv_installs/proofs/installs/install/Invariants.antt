use Rattle.std.proofs.Common.{[]}
use Rattle.sv_installs.proofs.installs.install.Given as goal

abbrev pub ghosts-make_current : goal.ghosts-make_current
ghosts-make_current g a = record { task = a.seat.now.seat.me.0.known.task; olds = [] }
