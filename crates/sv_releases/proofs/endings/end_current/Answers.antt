use Rattle.std.proofs.Common.{refl, ◌∙◌}
use Rattle.sv_releases.proofs.Ended.{begins-sweep, may-end, retires}
use Rattle.sv_turns.specs.Owned.{releases}
use Rattle.sv_releases.proofs.endings.end_current.Goals as goal

pub show_none-requires-clause-may : goal.show_none-requires-clause-may
show_none-requires-clause-may g c = let v = c.args.seat.now.seat.me.0 in
    may-end c.args.held.now.books c.args.family c.args.old.pack (releases c.args.family v.known.task) v c.requires.may

pub retire-requires-clause-begins : goal.retire-requires-clause-begins
retire-requires-clause-begins g c = let v = c.args.seat.now.seat.me.0 in
    begins-sweep c.args.held.now.books c.args.family c.args.old.pack (releases c.args.family v.known.task) v c.requires.may
    c.show_none.new.seat.seat.me.0 c.show_none.ensures.ended

pub returns-clause-retires : goal.returns-clause-retires
returns-clause-retires g c = let v = c.args.seat.now.seat.me.0 in
    retires c.args.held.now.books c.args.family c.args.old.pack (releases c.args.family v.known.task) v c.requires.may
    c.show_none.new.seat.seat.me.0 c.show_none.ensures.ended c.retire.new.held.books c.retire.new.seat.seat.me.0
    c.retire.ensures.reclaimed
