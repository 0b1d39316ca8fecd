use Rattle.sv_slots.proofs.table.Core.drop_ref.Given as goal

abbrev pub ghosts-subtract_step : goal.ghosts-subtract_step
ghosts-subtract_step g a = record { pack = a.pack }
