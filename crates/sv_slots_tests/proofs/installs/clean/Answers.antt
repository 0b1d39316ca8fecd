use Rattle.std.proofs.Common.{ap, subst, ◌∙◌}
use Rattle.sv_model.specs.Turns.{IsAccounted}
use Rattle.sv_rule.specs.LockPlays.{took_db}
use Rattle.sv_slots_tests.proofs.Sweeps.{may_settle, settled_gives}
use Rattle.sv_slots_tests.specs.Stages.{books_at}
use Rattle.sv_slots_tests.specs.declared.stages.Stage.{Stage}
use Rattle.sv_slots_tests.proofs.installs.clean.Goals as goal

pub settle-requires-clause-may : goal.settle-requires-clause-may
settle-requires-clause-may g c =
    let v = c.args.seat.now.seat.me.0 in let at = c.in-Installed.is in
    may_settle c.args.owed v c.requires.owed
    (subst (λ (s : Stage). IsAccounted v.known.lane (books_at s) v.known.task) at c.take_state.ensures.told.accounted)
    c.take_state.new.seat.seat.me.0
    (c.take_state.ensures.took ∙ ap (λ (s : Stage). took_db (books_at s) v) at)

pub give_state-requires-clause-lock : goal.give_state-requires-clause-lock
give_state-requires-clause-lock g c =
    let v = c.args.seat.now.seat.me.0 in let at = c.in-Installed.is in
    settled_gives c.args.owed v c.requires.owed
    (subst (λ (s : Stage). IsAccounted v.known.lane (books_at s) v.known.task) at c.take_state.ensures.told.accounted)
    c.take_state.new.seat.seat.me.0 c.settle.new.seat.seat.me.0
    (c.take_state.ensures.took ∙ ap (λ (s : Stage). took_db (books_at s) v) at)
    c.settle.ensures.view
