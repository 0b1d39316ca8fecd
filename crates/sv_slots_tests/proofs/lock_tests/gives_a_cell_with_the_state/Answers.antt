use Rattle.sv_slots_tests.proofs.GivenLocks.{may_give_written, may_write}
use Rattle.sv_slots_tests.specs.Stages.{books_at}
use Rattle.sv_slots_tests.proofs.lock_tests.gives_a_cell_with_the_state.Goals as goal

pub write_cell-requires-clause-lock : goal.write_cell-requires-clause-lock
write_cell-requires-clause-lock g c =
    may_write (books_at c.take_state-state.result) _ c.in_ok-core.ensures.unused.1
    c.take_state-state.ensures.told.accounted 2 _ _ _ c.take_state-state.ensures.took c.take_cell-cell.ensures.took
    c.take_cell-cell.ensures.books

pub give_state-requires-clause-lock : goal.give_state-requires-clause-lock
give_state-requires-clause-lock g c =
    may_give_written (books_at c.take_state-state.result) _ c.in_ok-core.ensures.unused.1
    c.take_state-state.ensures.told.accounted 2 _ _ _ _ c.take_state-state.ensures.took
    c.take_cell-cell.ensures.took c.write_cell.ensures.wrote
