use Rattle.sv_gets.proofs.cells.read_active.Given as goal

abbrev pub ghosts-give_slot : goal.ghosts-give_slot
ghosts-give_slot g a = record { family = a.body.now.descriptor.family; cut = a._cut }
