use Rattle.std.proofs.Common.{subst}
use Rattle.sv_borrows.proofs.Lending.{drops-last, drops-more}
use Rattle.sv_slots.specs.References.{IsDropped}
use Rattle.sv_borrows.proofs.returns.let_go.Goals as goal

pub returns-in-Last-clause-drops : goal.returns-in-Last-clause-drops
returns-in-Last-clause-drops g c =
    let v = c.args.seat.now.seat.me.0 in let p = c.args.held.pack in let t = c.drop_ref-left.new.seat.seat.me.0 in
    let drop = subst (λ s. IsDropped p s v t) c.in-Last.is c.drop_ref-left.ensures.view in
    drops-last p v c.requires.free.0.locks c.requires.free.1 t c.settle.new.seat.seat.me.0 drop.1 c.settle.ensures.settled

pub returns-in_default-clause-drops : goal.returns-in_default-clause-drops
returns-in_default-clause-drops g c =
    let v = c.args.seat.now.seat.me.0 in let p = c.args.held.pack in let t = c.drop_ref-left.new.seat.seat.me.0 in
    drops-more p v c.requires.free.0.locks c.requires.free.1 t
    (subst (λ s. IsDropped p s v t) c.in_default.is c.drop_ref-left.ensures.view)
