use Rattle.std.proofs.Common.{ap, subst, ◌∙◌}
use Rattle.sv_model.specs.Turns.{IsAccounted}
use Rattle.sv_rule.specs.LockPlays.{took_db}
use Rattle.sv_slots_tests.proofs.Sweeps.{may_open, new_is, sweeps_new}
use Rattle.sv_slots_tests.specs.Stages.{books_at}
use Rattle.sv_slots_tests.specs.declared.stages.Stage.{Stage}
use Rattle.sv_slots_tests.proofs.installs.begin.Goals as goal

pub make_current-found-requires-clause-may : goal.make_current-found-requires-clause-may
make_current-found-requires-clause-may g c =
    let v = c.args.seat.now.seat.me.0 in let at = c.in-Opened.is in
    may_open v c.requires.unused
    (subst (λ (s : Stage). IsAccounted v.known.lane (books_at s) v.known.task) at c.take_state.ensures.told.accounted)
    c.take_state.new.seat.seat.me.0
    (c.take_state.ensures.took ∙ ap (λ (s : Stage). took_db (books_at s) v) at) _
    (new_is c.args.new.now.pack c.args.new.now.body.value.family c.requires.new.0 c.requires.new.1)

pub returns-then-found-eq256-clause-began : goal.returns-then-found-eq256-clause-began
returns-then-found-eq256-clause-began g c =
    let v = c.args.seat.now.seat.me.0 in let at = c.in-Opened.is in
    sweeps_new v c.requires.unused
    (subst (λ (s : Stage). IsAccounted v.known.lane (books_at s) v.known.task) at c.take_state.ensures.told.accounted)
    c.take_state.new.seat.seat.me.0 c.make_current-found.new.seat.seat.me.0
    (c.take_state.ensures.took ∙ ap (λ (s : Stage). took_db (books_at s) v) at) _
    (new_is c.args.new.now.pack c.args.new.now.body.value.family c.requires.new.0 c.requires.new.1)
    c.make_current-found.result c.if-found-eq256.true c.make_current-found.ensures.view
