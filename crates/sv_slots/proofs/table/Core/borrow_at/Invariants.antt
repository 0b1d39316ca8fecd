use Rattle.sv_slots.proofs.table.Core.borrow_at.Given as goal

abbrev pub ghosts-use_step-J-Placed : goal.ghosts-use_step-J-Placed
ghosts-use_step-J-Placed g a = record { family = a.family }

abbrev pub ghosts-use_step-K-Counting : goal.ghosts-use_step-K-Counting
ghosts-use_step-K-Counting g a = record { count = a._count }

abbrev pub ghosts-look_step : goal.ghosts-look_step
ghosts-look_step g a = record { family = a.family }

abbrev pub ghosts-rest_step-J-Placed : goal.ghosts-rest_step-J-Placed
ghosts-rest_step-J-Placed g a = record { family = a.family }

abbrev pub ghosts-rest_step-K-Named : goal.ghosts-rest_step-K-Named
ghosts-rest_step-K-Named g a = record { pack = a._pack }

abbrev pub ghosts-rest_step-L-Counting : goal.ghosts-rest_step-L-Counting
ghosts-rest_step-L-Counting g a = record { count = a._count }
