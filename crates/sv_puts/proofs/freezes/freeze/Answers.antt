use Rattle.sv_puts.proofs.ActiveCells.{active-within, gave-same, may-give-same}
use Rattle.sv_rule.specs.Fits.{cell_of}
use Rattle.sv_puts.proofs.freezes.freeze.Goals as goal

pub frozen_in-frozen-requires : goal.frozen_in-frozen-requires
frozen_in-frozen-requires g c =
    let h = c.requires.active in
    (cell_of c.args.held.now.books.journal h.it.descriptor.active, c.take_active-slot.ensures.found h)

pub give_same-requires-clause-within : goal.give_same-requires-clause-within
give_same-requires-clause-within g c =
    active-within c.args.held.now.books c.requires.desk.own.lawful c.args.family c.args.number c.requires.active

pub give_same-requires-clause-lock : goal.give_same-requires-clause-lock
give_same-requires-clause-lock g c =
    let t = c.take_active-slot in let h = c.requires.active in
    may-give-same c.args.held.now.books c.args.seat.now.seat.me.0 c.requires.desk c.args.family c.args.number h t.result
    t.new.seat.seat.me.0 t.ensures.took (t.ensures.found h)

pub returns-in_err-frozen-clause-goes : goal.returns-in_err-frozen-clause-goes
returns-in_err-frozen-clause-goes g c =
    let t = c.take_active-slot in
    gave-same c.args.held.now.books c.args.seat.now.seat.me.0 c.requires.desk c.args.number t.result
    t.new.seat.seat.me.0 t.ensures.took c.give_same.new.seat.seat.me.0 c.give_same.ensures.gave

pub returns-in_default-clause-goes : goal.returns-in_default-clause-goes
returns-in_default-clause-goes g c =
    let t = c.take_active-slot in
    gave-same c.args.held.now.books c.args.seat.now.seat.me.0 c.requires.desk c.args.number t.result
    t.new.seat.seat.me.0 t.ensures.took c.give_same.new.seat.seat.me.0 c.give_same.ensures.gave

pub returns-clause-goes : goal.returns-clause-goes
returns-clause-goes g c =
    let t = c.take_active-slot in
    gave-same c.args.held.now.books c.args.seat.now.seat.me.0 c.requires.desk c.args.number t.result
    t.new.seat.seat.me.0 t.ensures.took c.give_same.new.seat.seat.me.0 c.give_same.ensures.gave
