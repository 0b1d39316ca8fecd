use Rattle.sv_rests.proofs.Resting.{rest-away, rest-desk, rest-gives, rest-is, rest-room}
use Rattle.sv_rests.proofs.rests.rest.Goals as goal

pub rest_all-count-requires-clause-away : goal.rest_all-count-requires-clause-away
rest_all-count-requires-clause-away g c = let t = c.take_state-held in
    rest-away c.args.seat.now.seat.me.0 c.requires.free t.result.books t.new.seat.seat.me.0 t.ensures.took t.ensures.told c.requires.away

pub rest_all-count-requires-clause-desk : goal.rest_all-count-requires-clause-desk
rest_all-count-requires-clause-desk g c = let t = c.take_state-held in
    rest-desk c.args.seat.now.seat.me.0 c.requires.free t.result.books t.new.seat.seat.me.0 t.ensures.took t.ensures.told

pub rest_all-count-requires-clause-room : goal.rest_all-count-requires-clause-room
rest_all-count-requires-clause-room g c = let t = c.take_state-held in
    rest-room c.args.seat.now.seat.me.0 c.requires.free t.result.books t.new.seat.seat.me.0 t.ensures.took t.ensures.told

pub give_state-requires-clause-lock : goal.give_state-requires-clause-lock
give_state-requires-clause-lock g c = let t = c.take_state-held in let r = c.rest_all-count in
    rest-gives c.args.seat.now.seat.me.0 c.requires.free t.result.books t.new.seat.seat.me.0 t.ensures.took t.ensures.told
    r.result r.new.seat.seat.me.0 r.ensures.rests

pub returns-clause-rests : goal.returns-clause-rests
returns-clause-rests g c = let t = c.take_state-held in let r = c.rest_all-count in
    rest-is c.args.seat.now.seat.me.0 c.requires.free t.result.books t.new.seat.seat.me.0 t.ensures.took t.ensures.told
    r.result r.new.seat.seat.me.0 r.ensures.rests c.give_state.new.seat.seat.me.0 c.give_state.ensures.gave
