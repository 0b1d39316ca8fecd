use Rattle.std.proofs.Common.{[]}
use Rattle.sv_rule.specs.Blanks.{desk_of}
use Rattle.sv_slots_tests.specs.Stages.{books_at}
use Rattle.sv_slots_tests.proofs.lock_tests.gives_a_cell_with_the_state.Given as goal

abbrev pub ghosts-write_cell : goal.ghosts-write_cell
ghosts-write_cell g a = record {
  desk = desk_of a.seat.now.seat.me.0;
  cell = a.number;
  books = books_at a.state.now;
  task = a.seat.now.seat.me.0.known.task;
  more = [];
  family = 0;
  seen = 0;
}

abbrev pub ghosts-give_state : goal.ghosts-give_state
ghosts-give_state g a = record { task = a.seat.now.seat.me.0.known.task }
