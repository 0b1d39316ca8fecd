use Rattle.std.proofs.Common.{ap, arith, subst, sym, ℕ, ◌∙◌}
use Rattle.sv_rule.specs.Views.{Body}
use Rattle.sv_slots.specs.Borrows.{given_back}
use Rattle.sv_slots.specs.Seats.{Lends}
use Rattle.sv_slots.proofs.Lent.{hit-known, hit-lends}
use Rattle.sv_slots_bench.proofs.Pairs.{again, body, hit_room}
use Rattle.sv_slots_bench.proofs.lanes.pairs.Goals as goal

pub give_back-requires-clause-lent : goal.give_back-requires-clause-lent
give_back-requires-clause-lent c =
    let h = c.in-Ok.ensures.ok in let v = c.loop-done.seat.seat.me.0 in let w = c.try_borrow.new.seat.seat.me.0 in
    let sv = c.in-Ok.borrow.sv in
    subst (λ (z : ℕ). Lends w z sv.pack) (sym h.0) (hit-lends body c.args.family sv v w h.1)

pub give_back-requires-clause-known : goal.give_back-requires-clause-known
give_back-requires-clause-known c =
    let h = c.in-Ok.ensures.ok in let v = c.loop-done.seat.seat.me.0 in let w = c.try_borrow.new.seat.seat.me.0 in
    hit-known body c.args.family c.in-Ok.borrow.sv v w h.1

pub give_back-requires-clause-room : goal.give_back-requires-clause-room
give_back-requires-clause-room c =
    let h = c.in-Ok.ensures.ok in let v = c.loop-done.seat.seat.me.0 in let w = c.try_borrow.new.seat.seat.me.0 in
    hit_room body c.args.family c.in-Ok.borrow.sv v w h.1 c.loop-done.invariant.1.room

pub loop-done-preserved : goal.loop-done-preserved
loop-done-preserved c =
    let h = c.in-Ok.ensures.ok in let v = c.loop-done.seat.seat.me.0 in let w = c.try_borrow.new.seat.seat.me.0 in
    let sv = c.in-Ok.borrow.sv in let inv = c.loop-done.invariant in (
      c.give_back.ensures.same.0 ∙ (c.try_borrow.ensures.same.0 ∙ inv.0),
      again body c.args.family sv v w h.1 c.give_back.new.seat.seat.me.0 sv.pack inv.1.room
          (c.in-Kept.ensures.given ∙ ap (λ (z : ℕ). given_back z sv.pack w) h.0),
      omega arith,
    )
