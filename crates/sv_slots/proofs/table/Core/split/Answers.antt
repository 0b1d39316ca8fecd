use Rattle.std.proofs.Common.{arith}
use Rattle.sv_rule_seats.proofs.SeatSplits.{splits}
use Rattle.sv_slots.proofs.table.Core.split.Goals as goal

pub split_seat-other-requires : goal.split_seat-other-requires
split_seat-other-requires g c =
    let t = c.args.self.now.sized in let r = c.requires in
    (r.table, omega (arith, t.words), splits g.P.Parts.books g.P.Parts.disk g.P.Parts.cell g.P.Parts.body _ c.args.seat.now.seat.me.0 r.lane.2)
