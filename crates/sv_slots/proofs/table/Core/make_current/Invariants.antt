use Rattle.sv_rule.specs.Blanks.{desk_of}
use Rattle.sv_slots.specs.Seats.{bodied}
use Rattle.sv_slots.proofs.table.Core.make_current.Given as goal

abbrev pub ghosts-open_step : goal.ghosts-open_step
ghosts-open_step g a = record {
  family = a._family;
  bodied = bodied g.P.Parts.body a._new.now;
  books = g.P.Parts.books a._state.now;
  task = g.J.Installing.task;
  desk = desk_of a.seat.now.me.0;
}

abbrev pub ghosts-round_step : goal.ghosts-round_step
ghosts-round_step g a = record { family = a._family; desk = desk_of a.seat.now.me.0 }

abbrev pub ghosts-number_step : goal.ghosts-number_step
ghosts-number_step g a =
    record { family = a.family; pack = a.pack; olds = g.J.Installing.olds; desk = desk_of a.seat.now.me.0 }
