use Rattle.std.proofs.Common.{ap, ◌∙◌}
use Rattle.sv_rule.specs.Views.{LaneView}
use Rattle.sv_puts.proofs.Putting.{gives-put, own-currents, puts, taken-desk}
use Rattle.sv_puts.proofs.puts.put.Goals as goal

pub put_locked-answer-requires-clause-desk : goal.put_locked-answer-requires-clause-desk
put_locked-answer-requires-clause-desk g c =
    let t = c.take_state-held in (
      taken-desk c.args.seat.now.seat.me.0 c.requires.free.0 t.result.books t.new.seat.seat.me.0 t.ensures.took
          t.ensures.told,
      ap (λ (z : LaneView). z.owes) t.ensures.took ∙ c.requires.free.1,
    )

pub put_locked-answer-requires-clause-current : goal.put_locked-answer-requires-clause-current
put_locked-answer-requires-clause-current g c =
    let t = c.take_state-held in
    own-currents c.args.seat.now.seat.me.0 c.requires.free.0 t.result.books t.new.seat.seat.me.0 t.ensures.took
    t.ensures.told c.args.lane c.requires.lane.1 c.args.name.now

pub give_state-requires-clause-lock : goal.give_state-requires-clause-lock
give_state-requires-clause-lock g c =
    let t = c.take_state-held in let k = c.put_locked-answer in
    gives-put c.args.seat.now.seat.me.0 c.requires.free.0 t.result.books t.new.seat.seat.me.0 t.ensures.took
    t.ensures.told c.args.lane c.args.name.now c.args.row k.result k.new.held.books k.new.seat.seat.me.0 k.ensures.puts

pub returns-clause-puts : goal.returns-clause-puts
returns-clause-puts g c =
    let t = c.take_state-held in let k = c.put_locked-answer in
    puts c.args.seat.now.seat.me.0 c.requires.free.0 t.result.books t.new.seat.seat.me.0 t.ensures.took t.ensures.told
    c.args.lane c.args.name.now c.args.row k.result k.new.held.books k.new.seat.seat.me.0 k.ensures.puts
    c.give_state.new.seat.seat.me.0 c.give_state.ensures.gave
