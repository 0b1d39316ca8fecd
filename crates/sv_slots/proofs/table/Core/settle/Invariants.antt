use Rattle.sv_rule.specs.Blanks.{desk_of}
use Rattle.sv_slots.proofs.table.Core.settle.Given as goal

abbrev pub ghosts-settle_step : goal.ghosts-settle_step
ghosts-settle_step g a = record {
  pack = a.pack;
  books = g.P.Parts.books a._state.now;
  task = g.J.Settling.task;
  cells = g.J.Settling.cells;
  desk = desk_of a.seat.now.me.0;
}
