use Rattle.sv_borrows.specs.Parts.{body_of}
use Rattle.sv_borrows.proofs.Locked.{either, gives-cleaned, gives-lent, if-err, if-ok, is-lent, is-not-lent, lends-current, taken-owes}
use Rattle.sv_rule.specs.LockPlays.{MayGiveDb}
use Rattle.sv_slots.specs.Seats.{bodied}
use Rattle.sv_borrows.proofs.lends.lend_locked.Goals as goal

pub clean-requires-clause-owed : goal.clean-requires-clause-owed
clean-requires-clause-owed g c =
    let t = c.take_state-held in
    taken-owes c.args.seat.now.seat.me.0 c.requires.free t.result.books t.new.seat.seat.me.0 t.ensures.took t.ensures.told
    c.args.left c.requires.owed c.requires.big

pub lend_current-lent-requires-clause-current : goal.lend_current-lent-requires-clause-current
lend_current-lent-requires-clause-current g c =
    let t = c.take_state-held in (
      c.requires.lend.0.0,
      lends-current c.args.seat.now.seat.me.0 c.requires.free t.result.books t.new.seat.seat.me.0 t.ensures.took
          t.ensures.told c.clean.new.held.books c.clean.new.seat.seat.me.0 c.clean.ensures.cleaned c.args.family
          c.requires.lend.0,
    )

pub give_state-requires-clause-lock : goal.give_state-requires-clause-lock
give_state-requires-clause-lock g c =
    let t = c.take_state-held in
    let v = c.args.seat.now.seat.me.0 in
    let x = c.lend_current-lent.new.seat.seat.me.0 in
    either (MayGiveDb x c.clean.new.held.books x.known.task) _ _ c.lend_current-lent.result
    (λ l h. gives-lent v c.requires.free t.result.books t.new.seat.seat.me.0 t.ensures.took t.ensures.told
    c.clean.new.held.books c.clean.new.seat.seat.me.0 c.clean.ensures.cleaned c.args.family (bodied body_of l.sv) x h.2)
    (λ e h. gives-cleaned v c.requires.free t.result.books t.new.seat.seat.me.0 t.ensures.took t.ensures.told
    c.clean.new.held.books c.clean.new.seat.seat.me.0 c.clean.ensures.cleaned x h)
    c.lend_current-lent.ensures.ok c.lend_current-lent.ensures.err

pub returns-clause-ok : goal.returns-clause-ok
returns-clause-ok g c =
    let t = c.take_state-held in
    let v = c.args.seat.now.seat.me.0 in
    let x = c.lend_current-lent.new.seat.seat.me.0 in
    if-ok _ _ c.lend_current-lent.result
    (λ l h. (
      h.0,
      h.1,
      is-lent v c.requires.free t.result.books t.new.seat.seat.me.0 t.ensures.took t.ensures.told
          c.clean.new.held.books c.clean.new.seat.seat.me.0 c.clean.ensures.cleaned c.args.family (bodied body_of l.sv) x h.2
          c.give_state.new.seat.seat.me.0 c.give_state.ensures.gave,
    ))
    c.lend_current-lent.ensures.ok

pub returns-clause-err : goal.returns-clause-err
returns-clause-err g c =
    let t = c.take_state-held in
    let v = c.args.seat.now.seat.me.0 in
    let x = c.lend_current-lent.new.seat.seat.me.0 in
    if-err _ _ c.lend_current-lent.result
    (λ e h. is-not-lent v c.requires.free t.result.books t.new.seat.seat.me.0 t.ensures.took t.ensures.told
    c.clean.new.held.books c.clean.new.seat.seat.me.0 c.clean.ensures.cleaned x h
    c.give_state.new.seat.seat.me.0 c.give_state.ensures.gave)
    c.lend_current-lent.ensures.err
