use Rattle.std.proofs.Common.{ap, arith, map, subst, sym, ◌++◌, ◌∙◌}
use Rattle.sv_db.specs.Opening.{AreFirst}
use Rattle.sv_db.proofs.OpenedLocals.{push-first, push-seated, remove-first, seats-left}
use Rattle.sv_db.proofs.opened.seat_lanes.Goals as goal

pub loop-lane-preserved : goal.loop-lane-preserved
loop-lane-preserved g c =
    let was = c.loop-lane.invariant in let r = c.remove in let x = c.new-local in
    let left = seats-left (λ z. z.seat) c.loop-lane.locals.items c.loop-lane.seats.items c.args.seats.items was.0
    (omega (arith, was.2, c.requires.room.0, c.loop-lane-test.true)) in
    let first = remove-first c.loop-lane.seats.items r.result r.new.self.items left r.ensures.value r.ensures.items in (
      ap (λ z. map (λ y. y.seat) z ++ r.new.self.items) c.in-Ok.ensures.items
          ∙ push-seated (λ z. z.seat) c.loop-lane.locals.items x.result r.result r.new.self.items c.loop-lane.seats.items
          c.args.seats.items x.ensures.1 first was.0,
      subst (λ z. AreFirst (map (λ y. (y.lane, y.handles, y.pins)) z)) (sym c.in-Ok.ensures.items)
          (push-first (λ y. (y.lane, y.handles, y.pins)) c.loop-lane.locals.items x.result was.1
          (λ i. ((x.ensures.0 ∙ sym was.2) i, x.ensures.2 i, x.ensures.3 i))),
      omega (arith, c.in-Ok.ensures.len, was.2),
      omega (arith, c.in-Ok.ensures.capacity, was.3),
    )
