use Rattle.sv_borrows.proofs.cleanups.clean.Given as goal

abbrev pub ghosts-settle_word : goal.ghosts-settle_word
ghosts-settle_word g a = record { task = a.seat.now.seat.me.0.known.task; cells = a._cells.now.items }
