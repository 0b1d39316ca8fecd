use Rattle.std.proofs.Common.{ap, arith, subst, sym, ◌+◌, ◌∙◌}
use Rattle.sv_rule.specs.Blanks.{new_view}
use Rattle.sv_rule.specs.SeatPlays.{split_left, split_right}
use Rattle.sv_slots.proofs.Begins.{others_push}
use Rattle.sv_slots.specs.Openings.{AreOthers, IsSeat}
use Rattle.sv_slots.proofs.table.Core.seat_lanes.Goals as goal

pub loop-lane-preserved : goal.loop-lane-preserved
loop-lane-preserved g c =
    let s = c.split-other in let inv = c.loop-lane.invariant in let t = c.args.first.seat.table_id in
    let start = c.args.first.seat.me.0.known.start in let right = s.ensures.right in
    let it : IsSeat t c.loop-lane.lane (new_view c.loop-lane.lane c.args.lanes 0 start) s.result = record {
      table = right.0 ∙ inv.0;
      lane_is = right.1;
      view_is = right.2 ∙ ap split_right inv.2;
    } in (
      s.ensures.same.0 ∙ inv.0,
      s.ensures.same.1 ∙ inv.1,
      s.ensures.left ∙ ap split_left inv.2,
      c.push_reserved.ensures.capacity ∙ inv.3,
      omega arith,
      subst (AreOthers t c.args.lanes (c.loop-lane.lane + 1) start) (sym c.push_reserved.ensures.items)
          (others_push t c.args.lanes start c.loop-lane.lane c.loop-lane.seats.items s.result inv.5 it),
    )
