use Rattle.sv_slots.proofs.BorrowSteps.{borrows_locked}
use Rattle.sv_slots.proofs.table.Core.borrow_locked_at.Goals as goal

pub returns-clause-view : goal.returns-clause-view
returns-clause-view g c =
    let r = c.requires in let a = c.args in
    (borrows_locked g.P.Parts.body a.family a.lane a._fresh.now.pack c.use_step.result c.look_step.result a.seat.now.me
    c.use_step.new.seat.me c.look_step.new.seat.me c.use_step.ensures.found c.look_step.ensures.looked r.lane r.free.1
    r.lock r.fresh.0 r.fresh.1).0

pub returns-clause-carried : goal.returns-clause-carried
returns-clause-carried g c =
    let r = c.requires in let a = c.args in
    (borrows_locked g.P.Parts.body a.family a.lane a._fresh.now.pack c.use_step.result c.look_step.result a.seat.now.me
    c.use_step.new.seat.me c.look_step.new.seat.me c.use_step.ensures.found c.look_step.ensures.looked r.lane r.free.1
    r.lock r.fresh.0 r.fresh.1).1
