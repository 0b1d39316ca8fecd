use Rattle.sv_slots.proofs.table.Core.give_back_at.Given as goal

abbrev pub ghosts-put_step-J-Placed : goal.ghosts-put_step-J-Placed
ghosts-put_step-J-Placed g a = record { family = a.family }

abbrev pub ghosts-put_step-K-Named : goal.ghosts-put_step-K-Named
ghosts-put_step-K-Named g a = record { pack = a.pack }

abbrev pub ghosts-rest_step-J-Placed : goal.ghosts-rest_step-J-Placed
ghosts-rest_step-J-Placed g a = record { family = a.family }

abbrev pub ghosts-rest_step-K-Named : goal.ghosts-rest_step-K-Named
ghosts-rest_step-K-Named g a = record { pack = a._pack }

abbrev pub ghosts-rest_step-L-Counting : goal.ghosts-rest_step-L-Counting
ghosts-rest_step-L-Counting g a = record { count = a._count }
