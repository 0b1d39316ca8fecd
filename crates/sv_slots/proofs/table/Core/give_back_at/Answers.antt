use Rattle.std.proofs.Common.{ap, arith, rules, ◌∙◌, ◌∷◌}
use Rattle.atomic_table.specs.Table.{rest}
use Rattle.sv_slots.proofs.GiveBackSteps.{kept_given, lies, same_given, still, still_front, still_held, swept_given}
use Rattle.sv_slots.proofs.table.Core.give_back_at.Goals as goal

pub put_step-found-requires-clause-front : goal.put_step-found-requires-clause-front
put_step-found-requires-clause-front g c =
    let a = c.args in let slot = c.slot_home_of-slot in
    lies g.P.Parts.body a.family a.lane a.pack 0 slot.result a.sv a.seat.now.me c.exchange.new.seat.me
    c.exchange.new.seat.me slot.ensures c.exchange.ensures.3 c.requires.family.2 c.requires.known

pub returns-then-found-eq1-clause-given : goal.returns-then-found-eq1-clause-given
returns-then-found-eq1-clause-given g c =
    let a = c.args in let slot = c.slot_home_of-slot in let u = c.put_step-found in
    (kept_given g.P.Parts.body a.family a.lane a.pack u.result slot.result a.sv a.seat.now.me c.exchange.new.seat.me
    u.new.seat.me slot.ensures c.exchange.ensures.3 c.requires.family.2 u.ensures.found c.if-found-eq1.true).0

pub returns-then-found-eq1-clause-carried : goal.returns-then-found-eq1-clause-carried
returns-then-found-eq1-clause-carried g c =
    let a = c.args in let slot = c.slot_home_of-slot in let u = c.put_step-found in
    (kept_given g.P.Parts.body a.family a.lane a.pack u.result slot.result a.sv a.seat.now.me c.exchange.new.seat.me
    u.new.seat.me slot.ensures c.exchange.ensures.3 c.requires.family.2 u.ensures.found c.if-found-eq1.true).1

pub exchange-requires-2 : goal.exchange-requires-2
exchange-requires-2 g c =
    let a = c.args in let slot = c.slot_home_of-slot in let u = c.put_step-found in (
      search rules,
      (
        _,
        still g.P.Parts.body a.family a.lane a.pack u.result slot.result a.sv a.seat.now.me c.exchange.new.seat.me
            u.new.seat.me slot.ensures c.exchange.ensures.3 c.requires.family.2 u.ensures.found c.if-found-eq1.false,
      ),
    )

pub rest_step-requires-clause-held : goal.rest_step-requires-clause-held
rest_step-requires-clause-held g c =
    let a = c.args in let slot = c.slot_home_of-slot in let u = c.put_step-found in let x = c.exchange-2 in
    still_held g.P.Parts.body a.family a.lane a.pack u.result slot.result a.sv a.seat.now.me c.exchange.new.seat.me
    u.new.seat.me slot.ensures c.exchange.ensures.3 c.requires.family.2 u.ensures.found c.if-found-eq1.false
    x.new.seat.me x.new.seat.me x.ensures.3

pub rest_step-requires-clause-front : goal.rest_step-requires-clause-front
rest_step-requires-clause-front g c =
    let a = c.args in let slot = c.slot_home_of-slot in let u = c.put_step-found in let x = c.exchange-2 in
    still_front g.P.Parts.body a.family a.lane a.pack u.result slot.result a.sv a.seat.now.me c.exchange.new.seat.me
    u.new.seat.me slot.ensures c.exchange.ensures.3 c.requires.family.2 u.ensures.found c.if-found-eq1.false
    x.new.seat.me x.new.seat.me x.ensures.3

pub returns-clause-given : goal.returns-clause-given
returns-clause-given g c =
    let a = c.args in let slot = c.slot_home_of-slot in let u = c.put_step-found in let x = c.exchange-2 in
    let at = x.ensures.2 ∙ ap (λ y. (slot.result, y) ∷ rest u.new.seat.me.1) c.in-Cached.is in (
      same_given g.P.Parts.body a.family a.lane a.pack u.result slot.result a.sv a.seat.now.me c.exchange.new.seat.me
          u.new.seat.me slot.ensures c.exchange.ensures.3 c.requires.family.2 u.ensures.found c.if-found-eq1.false
          c.in-Cached.sv at,
      (swept_given g.P.Parts.body a.family a.lane a.pack u.result slot.result a.sv a.seat.now.me c.exchange.new.seat.me
          u.new.seat.me slot.ensures c.exchange.ensures.3 c.requires.family.2 u.ensures.found c.if-found-eq1.false
          x.new.seat.me c.rest_step.new.seat.me x.ensures.3 c.rest_step.ensures.rested
          (omega (arith, c.requires.family.1))).0,
    )

pub returns-clause-carried : goal.returns-clause-carried
returns-clause-carried g c =
    let a = c.args in let slot = c.slot_home_of-slot in let u = c.put_step-found in let x = c.exchange-2 in
    (swept_given g.P.Parts.body a.family a.lane a.pack u.result slot.result a.sv a.seat.now.me c.exchange.new.seat.me
    u.new.seat.me slot.ensures c.exchange.ensures.3 c.requires.family.2 u.ensures.found c.if-found-eq1.false
    x.new.seat.me c.rest_step.new.seat.me x.ensures.3 c.rest_step.ensures.rested
    (omega (arith, c.requires.family.1))).1
