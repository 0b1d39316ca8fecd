use Rattle.std.proofs.Common.{List, [], ap, arith, ℕ, ◌++◌, ◌∙◌, ◌∷◌}
use Rattle.sv_slots.proofs.CarriedByCalls.{lane_stands, seated}
use Rattle.sv_slots.proofs.Turns.{carries_from, rotated_by}
use Rattle.sv_slots.proofs.ToldCounts.{tells_stand, told_of}
use Rattle.sv_slots.proofs.table.LaneSeat.turn.Goals as goal

pub invariant_of-self : goal.invariant_of-self
invariant_of-self g c =
    let s = c.args.self.now in
    let l = s.out.items in
    let e = c.push.ensures.items ∙ (ap (λ (z : List ℕ). z ++ c.remove-first.result ∷ []) c.remove-first.ensures.items
    ∙ rotated_by l c.remove-first.result (omega arith) c.remove-first.ensures.value) in
    let t = c.turn.ensures.2 in
    record {
      is_lane = lane_stands s.seat.me.0 c.turn.new.self.me.0 s.lane (ap (λ z. seated z.0) t) s.is_lane;
      tells = tells_stand s.seat.me.0 c.turn.new.self.me.0 s.counts (ap (λ z. told_of z.0) t) s.tells;
      carried = carries_from s.seat.me.0 c.turn.new.self.me.0 s.seat.me.1 c.turn.new.self.me.1 l c.push.new.self.items
          s.carried (ap (λ z. z.0) t) (ap (λ z. z.1) t) e;
    }
