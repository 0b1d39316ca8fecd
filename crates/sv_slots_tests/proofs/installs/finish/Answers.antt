use Rattle.sv_slots_tests.proofs.Sweeps.{last_gives, leaves}
use Rattle.sv_slots_tests.specs.Stages.{books_at}
use Rattle.sv_slots_tests.proofs.installs.finish.Goals as goal

pub give_state-requires-clause-lock : goal.give_state-requires-clause-lock
give_state-requires-clause-lock c =
    last_gives (books_at c.args.stage) c.args.seat.now.seat.me.0 c.requires.swept c.args.old.pack c.requires.old
    c.drop_ref-left.result c.drop_ref-left.new.seat.seat.me.0 c.drop_ref-left.ensures.view

pub returns-clause-left : goal.returns-clause-left
returns-clause-left c =
    leaves (books_at c.args.stage) c.args.seat.now.seat.me.0 c.requires.swept c.args.old.pack c.requires.old
    c.drop_ref-left.result c.drop_ref-left.new.seat.seat.me.0 c.give_state.new.seat.seat.me.0
    c.drop_ref-left.ensures.view c.give_state.ensures.gave
