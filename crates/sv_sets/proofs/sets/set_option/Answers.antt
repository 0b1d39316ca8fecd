use Rattle.std.proofs.Common.{ap, ◌∙◌}
use Rattle.sv_puts.proofs.Putting.{own-currents, taken-desk}
use Rattle.sv_rule.specs.Views.{LaneView}
use Rattle.sv_sets.proofs.Setting.{gives-set, sets}
use Rattle.sv_sets.proofs.sets.set_option.Goals as goal

pub set_locked-answer-requires-clause-desk : goal.set_locked-answer-requires-clause-desk
set_locked-answer-requires-clause-desk g c =
    let t = c.take_state-held in (
      taken-desk c.args.seat.now.seat.me.0 c.requires.free.0 t.result.books t.new.seat.seat.me.0 t.ensures.took
          t.ensures.told,
      ap (λ (z : LaneView). z.owes) t.ensures.took ∙ c.requires.free.1,
    )

pub set_locked-answer-requires-clause-current : goal.set_locked-answer-requires-clause-current
set_locked-answer-requires-clause-current g c =
    let t = c.take_state-held in
    own-currents c.args.seat.now.seat.me.0 c.requires.free.0 t.result.books t.new.seat.seat.me.0 t.ensures.took
    t.ensures.told c.args.lane c.requires.lane.1 c.args.name.now

pub give_state-requires-clause-lock : goal.give_state-requires-clause-lock
give_state-requires-clause-lock g c =
    let t = c.take_state-held in let k = c.set_locked-answer in
    gives-set c.args.seat.now.seat.me.0 c.requires.free.0 t.result.books t.new.seat.seat.me.0 t.ensures.took
    t.ensures.told c.args.lane c.args.name.now c.args.option c.args.value k.result k.new.held.books
    k.new.seat.seat.me.0 k.ensures.sets

pub returns-clause-sets : goal.returns-clause-sets
returns-clause-sets g c =
    let t = c.take_state-held in let k = c.set_locked-answer in
    sets c.args.seat.now.seat.me.0 c.requires.free.0 t.result.books t.new.seat.seat.me.0 t.ensures.took
    t.ensures.told c.args.lane c.args.name.now c.args.option c.args.value k.result k.new.held.books
    k.new.seat.seat.me.0 k.ensures.sets c.give_state.new.seat.seat.me.0 c.give_state.ensures.gave
