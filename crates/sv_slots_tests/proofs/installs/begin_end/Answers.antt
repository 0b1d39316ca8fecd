use Rattle.std.proofs.Common.{ap, arith, length, subst, ◌∙◌}
use Rattle.sv_model.specs.Turns.{IsAccounted}
use Rattle.sv_rule.specs.LockPlays.{took_db}
use Rattle.sv_slots_tests.proofs.Sweeps.{may_end, sweeps_ended}
use Rattle.sv_slots_tests.specs.Stages.{books_at}
use Rattle.sv_slots_tests.specs.declared.stages.Stage.{Stage}
use Rattle.sv_slots_tests.proofs.installs.begin_end.Goals as goal

pub no_current-found-requires-clause-may : goal.no_current-found-requires-clause-may
no_current-found-requires-clause-may g c =
    let v = c.args.seat.now.seat.me.0 in let at = c.in-Opened.is in
    may_end v c.requires.unused
    (subst (λ (s : Stage). IsAccounted v.known.lane (books_at s) v.known.task) at c.take_state.ensures.told.accounted)
    c.take_state.new.seat.seat.me.0
    (c.take_state.ensures.took ∙ ap (λ (s : Stage). took_db (books_at s) v) at)
    (omega (arith, ap (λ l. length l) c.requires.alone.1, c.requires.alone.0))

pub returns-then-found-eq256-clause-began : goal.returns-then-found-eq256-clause-began
returns-then-found-eq256-clause-began g c =
    let v = c.args.seat.now.seat.me.0 in let at = c.in-Opened.is in
    sweeps_ended v c.requires.unused
    (subst (λ (s : Stage). IsAccounted v.known.lane (books_at s) v.known.task) at c.take_state.ensures.told.accounted)
    c.take_state.new.seat.seat.me.0 c.no_current-found.new.seat.seat.me.0
    (c.take_state.ensures.took ∙ ap (λ (s : Stage). took_db (books_at s) v) at)
    c.no_current-found.result c.if-found-eq256.true c.no_current-found.ensures.view
