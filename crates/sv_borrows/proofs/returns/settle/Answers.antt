use Rattle.std.proofs.Common.{refl}
use Rattle.sv_borrows.proofs.Locked.{gives-cleaned, is-not-lent, taken-owes}
use Rattle.sv_borrows.proofs.returns.settle.Goals as goal

pub clean-requires-clause-owed : goal.clean-requires-clause-owed
clean-requires-clause-owed g c =
    let t = c.take_state-held in
    taken-owes c.args.seat.now.seat.me.0 c.requires.free t.result.books t.new.seat.seat.me.0 t.ensures.took t.ensures.told
    c.args.left c.requires.owed c.requires.big

pub give_state-requires-clause-lock : goal.give_state-requires-clause-lock
give_state-requires-clause-lock g c =
    let t = c.take_state-held in
    gives-cleaned c.args.seat.now.seat.me.0 c.requires.free t.result.books t.new.seat.seat.me.0 t.ensures.took
    t.ensures.told c.clean.new.held.books c.clean.new.seat.seat.me.0 c.clean.ensures.cleaned
    c.clean.new.seat.seat.me.0 refl

pub returns-clause-settled : goal.returns-clause-settled
returns-clause-settled g c =
    let t = c.take_state-held in
    is-not-lent c.args.seat.now.seat.me.0 c.requires.free t.result.books t.new.seat.seat.me.0 t.ensures.took
    t.ensures.told c.clean.new.held.books c.clean.new.seat.seat.me.0 c.clean.ensures.cleaned
    c.clean.new.seat.seat.me.0 refl c.give_state.new.seat.seat.me.0 c.give_state.ensures.gave
