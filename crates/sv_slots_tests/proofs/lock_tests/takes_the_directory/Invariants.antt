use Rattle.std.proofs.Common.{[]}
use Rattle.sv_slots_tests.proofs.lock_tests.takes_the_directory.Given as goal

abbrev pub ghosts-give_dir : goal.ghosts-give_dir
ghosts-give_dir g a = record {
  task = a.seat.now.seat.me.0.known.task;
  reads = [];
  names = a.seat.now.seat.me.0.names;
  lists = 0;
  rise = 0;
}
