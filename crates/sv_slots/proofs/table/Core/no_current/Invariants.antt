use Rattle.sv_rule.specs.Blanks.{desk_of}
use Rattle.sv_slots.proofs.table.Core.no_current.Given as goal

abbrev pub ghosts-end_step : goal.ghosts-end_step
ghosts-end_step g a = record {
  family = a._family;
  books = g.P.Parts.books a._state.now;
  task = g.J.Installing.task;
  desk = desk_of a.seat.now.me.0;
}

abbrev pub ghosts-number_step : goal.ghosts-number_step
ghosts-number_step g a =
    record { family = a.family; pack = a.pack; olds = g.J.Installing.olds; desk = desk_of a.seat.now.me.0 }
