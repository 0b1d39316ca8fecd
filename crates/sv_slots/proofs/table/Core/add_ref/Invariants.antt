use Rattle.sv_slots.specs.Seats.{bodied}
use Rattle.sv_slots.proofs.table.Core.add_ref.Given as goal

abbrev pub ghosts-add_step : goal.ghosts-add_step
ghosts-add_step g a = record { bodied = bodied g.P.Parts.body a._of.now }
