use Rattle.std.proofs.Common.{ap, refl, rules, ◌∙◌, ◌∷◌}
use Rattle.atomic_table.specs.Table.{rest}
use Rattle.sv_slots.proofs.BorrowSteps.{carries, empty_held, empty_rest, marked_use, rest_done, rest_front, rest_held}
use Rattle.sv_slots.proofs.SlotSteps.{none_counted}
use Rattle.sv_rule.specs.SlotPlays.{slotted}
use Rattle.sv_rule.specs.Views.{away}
use Rattle.sv_slots.proofs.table.Core.rest_at.Goals as goal

pub rest_step-requires-clause-held : goal.rest_step-requires-clause-held
rest_step-requires-clause-held g c =
    let u = c.use_step-found in let a = c.args in
    empty_held g.P.Parts.body a.family 0 a.lane u.result a.seat.now.me u.new.seat.me u.ensures.found c.if-found-eq0.true

pub returns-then-found-eq0-clause-rested : goal.returns-then-found-eq0-clause-rested
returns-then-found-eq0-clause-rested g c =
    let u = c.use_step-found in let a = c.args in
    let t = empty_rest g.P.Parts.body a.family 0 a.lane u.result a.seat.now.me u.new.seat.me u.ensures.found
    c.if-found-eq0.true c.rest_step.new.seat.me c.rest_step.ensures.rested in
    (u.result, t.0, t.1 ∙ none_counted (slotted a.family away 0 u.result a.seat.now.me.0))

pub returns-then-found-eq0-clause-carried : goal.returns-then-found-eq0-clause-carried
returns-then-found-eq0-clause-carried g c =
    let u = c.use_step-found in let a = c.args in
    (empty_rest g.P.Parts.body a.family 0 a.lane u.result a.seat.now.me u.new.seat.me u.ensures.found
    c.if-found-eq0.true c.rest_step.new.seat.me c.rest_step.ensures.rested).2

pub returns-then-found-lt256-clause-rested : goal.returns-then-found-lt256-clause-rested
returns-then-found-lt256-clause-rested g c =
    let u = c.use_step-found in let a = c.args in
    let t = marked_use g.P.Parts.body a.family 0 a.lane u.result a.seat.now.me u.new.seat.me u.ensures.found
    c.if-found-eq0.false c.if-found-lt256.true in
    (u.result, t.0, t.1 ∙ none_counted (slotted a.family away 0 u.result a.seat.now.me.0))

pub returns-then-found-lt256-clause-carried : goal.returns-then-found-lt256-clause-carried
returns-then-found-lt256-clause-carried g c =
    let u = c.use_step-found in let a = c.args in
    (marked_use g.P.Parts.body a.family 0 a.lane u.result a.seat.now.me u.new.seat.me u.ensures.found
    c.if-found-eq0.false c.if-found-lt256.true).2

pub exchange-requires : goal.exchange-requires
exchange-requires g c =
    let u = c.use_step-found in let a = c.args in (
      search rules,
      (
        _,
        carries g.P.Parts.body a.family 0 a.lane u.result a.seat.now.me u.new.seat.me c.slot_home_of-slot.result
            u.ensures.found c.if-found-lt256.false c.slot_home_of-slot.ensures c.requires.lane,
      ),
    )

pub rest_step-requires-2-clause-held : goal.rest_step-requires-2-clause-held
rest_step-requires-2-clause-held g c =
    let u = c.use_step-found in let a = c.args in let slot = c.slot_home_of-slot in let x = c.exchange in
    let at = x.ensures.2 ∙ ap (λ y. (slot.result, y) ∷ rest u.new.seat.me.1) c.in-Cached.is in
    rest_held g.P.Parts.body a.family 0 a.lane u.result a.seat.now.me u.new.seat.me slot.result u.ensures.found
    c.if-found-lt256.false slot.ensures c.requires.lane c.in-Cached.sv at x.new.seat.me x.ensures.3

pub rest_step-requires-2-clause-front : goal.rest_step-requires-2-clause-front
rest_step-requires-2-clause-front g c =
    let u = c.use_step-found in let a = c.args in let slot = c.slot_home_of-slot in let x = c.exchange in
    let at = x.ensures.2 ∙ ap (λ y. (slot.result, y) ∷ rest u.new.seat.me.1) c.in-Cached.is in
    rest_front g.P.Parts.body a.family 0 a.lane u.result a.seat.now.me u.new.seat.me slot.result u.ensures.found
    c.if-found-lt256.false slot.ensures c.requires.lane c.in-Cached.sv at x.new.seat.me x.ensures.3

pub returns-clause-rested : goal.returns-clause-rested
returns-clause-rested g c =
    let u = c.use_step-found in let a = c.args in let slot = c.slot_home_of-slot in let x = c.exchange in
    let at = x.ensures.2 ∙ ap (λ y. (slot.result, y) ∷ rest u.new.seat.me.1) c.in-Cached.is in
    (rest_done g.P.Parts.body a.family 0 a.lane u.result a.seat.now.me u.new.seat.me slot.result u.ensures.found
    c.if-found-lt256.false slot.ensures c.requires.lane c.in-Cached.sv at x.new.seat.me x.ensures.3
    c.rest_step-2.new.seat.me refl c.rest_step-2.ensures.rested).0

pub returns-clause-carried : goal.returns-clause-carried
returns-clause-carried g c =
    let u = c.use_step-found in let a = c.args in let slot = c.slot_home_of-slot in let x = c.exchange in
    let at = x.ensures.2 ∙ ap (λ y. (slot.result, y) ∷ rest u.new.seat.me.1) c.in-Cached.is in
    (rest_done g.P.Parts.body a.family 0 a.lane u.result a.seat.now.me u.new.seat.me slot.result u.ensures.found
    c.if-found-lt256.false slot.ensures c.requires.lane c.in-Cached.sv at x.new.seat.me x.ensures.3
    c.rest_step-2.new.seat.me refl c.rest_step-2.ensures.rested).1
