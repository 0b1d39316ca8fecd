use Rattle.std.proofs.Common.{ap, subst, sym, ◌∙◌}
use Rattle.sv_rule.specs.LockPlays.{MayGiveCell}
use Rattle.sv_rule.specs.Views.{LaneView}
use Rattle.sv_slots.proofs.CarriedByCalls.{lane_stands, seated}
use Rattle.sv_slots.proofs.CarriedByLocks.{gives_cell, has_cell}
use Rattle.sv_slots.specs.Carried.{ahead}
use Rattle.sv_slots.proofs.ToldCounts.{tells_stand, told_of}
use Rattle.sv_slots.proofs.table.Core.give_cell.Goals as goal

pub bring-requires : goal.bring-requires
bring-requires g c = let s = c.args.seat.now in has_cell s.seat.me.0 s.seat.me.1 s.out.items s.carried c.cell_word_of.result c.args.number (g.P.Parts.cell c.args.cell) c.cell_word_of.ensures c.requires.lock.cell

pub give_cell_at-requires-clause-lock : goal.give_cell_at-requires-clause-lock
give_cell_at-requires-clause-lock g c = subst (λ (z : LaneView). MayGiveCell z c.args.number (g.P.Parts.cell c.args.cell) g.J.Cuts.family g.J.Cuts.cut) (sym c.bring.ensures.same.2) c.requires.lock

pub invariant_of-seat : goal.invariant_of-seat
invariant_of-seat g c =
    let s = c.bring.new.self in let v = s.seat.me.0 in let n = c.give_cell_at.new.seat.me in
    let e = c.give_cell_at.ensures.gave in
    let was = c.bring.ensures.same.2 in
    record {
      is_lane = lane_stands v n.0 s.lane (ap (λ z. seated z.0) e) s.is_lane;
      tells = tells_stand v n.0 s.counts (ap (λ z. told_of z.0) e) s.tells;
      carried = gives_cell v n.0 s.seat.me.1 n.1 s.out.items c.remove.new.self.items s.carried c.args.number g.J.Cuts.family g.J.Cuts.cut (g.P.Parts.cell c.args.cell) (ap (λ z. z.0) e)
          (ap (λ (z : LaneView). z.locks.cell) was ∙ c.requires.lock.cell) (ap (λ z. ahead z s.out.items) (sym c.cell_word_of.ensures) ∙ c.bring.ensures.first) (ap (λ z. z.1) e) c.remove.ensures.items;
    }
