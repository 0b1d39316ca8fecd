use Rattle.std.proofs.Common.{false, subst, sym, ℕ}
use Rattle.sv_rule.specs.SweepPlays.{Sweeps}
use Rattle.sv_slots.proofs.CarriedByCalls.{carries_desk, lane_stands}
use Rattle.sv_slots.proofs.Installed.{swept_works}
use Rattle.sv_slots.proofs.ToldCounts.{tells_stand}
use Rattle.sv_slots.proofs.table.Core.sweep.Goals as goal

pub invariant_of-seat : goal.invariant_of-seat
invariant_of-seat g c =
    let s = c.args.seat.now in let m = s.seat.me in let n = c.sweep_at.new.seat.me in
    let at = subst (λ (z : ℕ). Sweeps m.0 z c.args.lane false) (sym c.family.view_is) c.requires.work in
    let e = swept_works g.P.Parts.body c.family.inside.0 c.args.lane c.sweep_at.result m.0 n.0 at
    c.sweep_at.ensures.swept in
    record {
      is_lane = lane_stands m.0 n.0 s.lane e.0 s.is_lane;
      tells = tells_stand m.0 n.0 s.counts e.3 s.tells;
      carried = carries_desk m.0 n.0 m.1 n.1 s.out.items s.carried e.1 e.2 c.sweep_at.ensures.carried;
    }
