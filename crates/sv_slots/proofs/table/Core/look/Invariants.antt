use Rattle.sv_slots.proofs.table.Core.look.Given as goal

abbrev pub ghosts-look_step : goal.ghosts-look_step
ghosts-look_step g a = record { family = a.family }
