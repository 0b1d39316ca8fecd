use Rattle.std.proofs.Common.{[]}
use Rattle.sv_rule.specs.Blanks.{desk_of}
use Rattle.sv_puts.proofs.cells.give_same.Given as goal

abbrev pub ghosts-write_cell : goal.ghosts-write_cell
ghosts-write_cell g a = record {
  desk = desk_of a.seat.now.seat.me.0;
  cell = a.number;
  books = a.state.now.books;
  task = a.seat.now.seat.me.0.known.task;
  more = [];
  family = 0;
  seen = 0;
}
