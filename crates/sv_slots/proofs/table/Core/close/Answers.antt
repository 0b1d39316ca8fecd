use Rattle.std.proofs.Common.{subst, sym}
use Rattle.sv_rule.specs.SeatPlays.{IsIdle, IsLast}
use Rattle.sv_rule.specs.Views.{LaneView}
use Rattle.sv_slots.proofs.Ends.{all_idle}
use Rattle.sv_slots.specs.Closings.{views_of}
use Rattle.sv_slots.proofs.table.Core.close.Goals as goal

pub end-requires-clause-last : goal.end-requires-clause-last
end-requires-clause-last g c =
    subst (λ (v : LaneView). IsLast v × IsIdle v) (sym c.gather_all-last.ensures.view)
    (all_idle (views_of c.args.seats.items) c.requires.all c.requires.idle)
