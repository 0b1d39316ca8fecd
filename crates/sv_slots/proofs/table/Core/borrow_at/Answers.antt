use Rattle.std.proofs.Common.{ap, refl, rules, ◌∙◌, ◌∷◌}
use Rattle.atomic_table.specs.Table.{rest}
use Rattle.sv_slots.proofs.BorrowSteps.{carries, empty_held, empty_rest, hits, marked_use, stale_front, stale_held, stales}
use Rattle.sv_slots.proofs.table.Core.borrow_at.Goals as goal

pub rest_step-requires-clause-held : goal.rest_step-requires-clause-held
rest_step-requires-clause-held g c =
    let u = c.use_step-found in let a = c.args in
    empty_held g.P.Parts.body a.family 1 a.lane u.result a.seat.now.me u.new.seat.me u.ensures.found c.if-found-eq0.true

pub returns-then-found-eq0-clause-err : goal.returns-then-found-eq0-clause-err
returns-then-found-eq0-clause-err g c =
    let u = c.use_step-found in let a = c.args in
    let t = empty_rest g.P.Parts.body a.family 1 a.lane u.result a.seat.now.me u.new.seat.me u.ensures.found
    c.if-found-eq0.true c.rest_step.new.seat.me c.rest_step.ensures.rested in
    ((u.result, t.0, t.1), t.2)

pub returns-then-found-lt256-clause-err : goal.returns-then-found-lt256-clause-err
returns-then-found-lt256-clause-err g c =
    let u = c.use_step-found in let a = c.args in
    let t = marked_use g.P.Parts.body a.family 1 a.lane u.result a.seat.now.me u.new.seat.me u.ensures.found
    c.if-found-eq0.false c.if-found-lt256.true in
    ((u.result, t.0, t.1), t.2)

pub exchange-requires : goal.exchange-requires
exchange-requires g c =
    let u = c.use_step-found in let a = c.args in (
      search rules,
      (
        _,
        carries g.P.Parts.body a.family 1 a.lane u.result a.seat.now.me u.new.seat.me c.slot_home_of-slot.result
            u.ensures.found c.if-found-lt256.false c.slot_home_of-slot.ensures c.requires.lane,
      ),
    )

pub returns-then-now-found-clause-ok : goal.returns-then-now-found-clause-ok
returns-then-now-found-clause-ok g c =
    let u = c.use_step-found in let a = c.args in let slot = c.slot_home_of-slot in let x = c.exchange in
    let at = x.ensures.2 ∙ ap (λ y. (slot.result, y) ∷ rest u.new.seat.me.1) c.in-Cached.is in
    hits g.P.Parts.body a.family 1 a.lane u.result a.seat.now.me u.new.seat.me slot.result u.ensures.found
    c.if-found-lt256.false slot.ensures c.requires.lane c.in-Cached.sv at x.new.seat.me x.ensures.3
    c.look_step-now.new.seat.me c.look_step-now.result c.look_step-now.ensures.looked c.if-now-found.true refl

pub rest_step-requires-2-clause-held : goal.rest_step-requires-2-clause-held
rest_step-requires-2-clause-held g c =
    let u = c.use_step-found in let a = c.args in let slot = c.slot_home_of-slot in let x = c.exchange in
    let at = x.ensures.2 ∙ ap (λ y. (slot.result, y) ∷ rest u.new.seat.me.1) c.in-Cached.is in
    stale_held g.P.Parts.body a.family 1 a.lane u.result a.seat.now.me u.new.seat.me slot.result u.ensures.found
    c.if-found-lt256.false slot.ensures c.requires.lane c.in-Cached.sv at x.new.seat.me x.ensures.3
    c.look_step-now.new.seat.me c.look_step-now.result c.look_step-now.ensures.looked c.if-now-found.false

pub rest_step-requires-2-clause-front : goal.rest_step-requires-2-clause-front
rest_step-requires-2-clause-front g c =
    let u = c.use_step-found in let a = c.args in let slot = c.slot_home_of-slot in let x = c.exchange in
    let at = x.ensures.2 ∙ ap (λ y. (slot.result, y) ∷ rest u.new.seat.me.1) c.in-Cached.is in
    stale_front g.P.Parts.body a.family 1 a.lane u.result a.seat.now.me u.new.seat.me slot.result u.ensures.found
    c.if-found-lt256.false slot.ensures c.requires.lane c.in-Cached.sv at x.new.seat.me x.ensures.3
    c.look_step-now.new.seat.me c.look_step-now.result c.look_step-now.ensures.looked

pub returns-clause-err : goal.returns-clause-err
returns-clause-err g c =
    let u = c.use_step-found in let a = c.args in let slot = c.slot_home_of-slot in let x = c.exchange in
    let at = x.ensures.2 ∙ ap (λ y. (slot.result, y) ∷ rest u.new.seat.me.1) c.in-Cached.is in
    stales g.P.Parts.body a.family 1 a.lane u.result a.seat.now.me u.new.seat.me slot.result u.ensures.found
    c.if-found-lt256.false slot.ensures c.requires.lane c.in-Cached.sv at x.new.seat.me x.ensures.3
    c.look_step-now.new.seat.me c.look_step-now.result c.look_step-now.ensures.looked c.if-now-found.false refl
    c.rest_step-2.new.seat.me c.rest_step-2.ensures.rested
