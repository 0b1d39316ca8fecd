use Rattle.std.proofs.Common.{arith}
use Rattle.sv_rule_seats.proofs.SeatJoins.{joins}
use Rattle.sv_slots.proofs.CarriedByCalls.{idle_none}
use Rattle.sv_slots.proofs.table.Core.gather.Goals as goal

pub join_seat-requires : goal.join_seat-requires
join_seat-requires g c =
    let t = c.args.self.now.sized in let r = c.requires in let s = c.args.seat.now in let o = c.args.other in (
      r.table.0,
      r.table.1,
      idle_none o.seat.me.0 o.seat.me.1 o.out.items o.carried r.idle,
      omega (arith, t.words),
      joins g.P.Parts.books g.P.Parts.disk g.P.Parts.cell g.P.Parts.body _ s.seat.me.0 _ o.seat.me.0 s.is_lane.alive r.idle,
    )
