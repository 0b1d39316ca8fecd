use Rattle.std.proofs.Common.{[]}
use Rattle.sv_rule.specs.Blanks.{desk_of}
use Rattle.sv_installs.proofs.fills.install_filled.Given as goal

abbrev pub ghosts-make_current : goal.ghosts-make_current
ghosts-make_current g a = record { task = a.seat.now.seat.me.0.known.task; olds = [] }

abbrev pub ghosts-give_filled : goal.ghosts-give_filled
ghosts-give_filled g a = record {
  desk = desk_of a.seat.now.seat.me.0;
  cell = a.number;
  books = a.held.now.books;
  task = a.seat.now.seat.me.0.known.task;
  more = [];
  family = 0;
  seen = 0;
}
