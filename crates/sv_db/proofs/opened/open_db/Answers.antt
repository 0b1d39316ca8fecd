use Rattle.std.proofs.Common.{subst, sym}
use Rattle.sv_db.specs.Opening.{new_start}
use Rattle.sv_db.proofs.OpenedLocals.{are-locals}
use Rattle.sv_slots.specs.Known.{table_of}
use Rattle.sv_slots.specs.Openings.{AreOpened}
use Rattle.sv_db.proofs.opened.open_db.Goals as goal

pub returns-clause-local : goal.returns-clause-local
returns-clause-local g c =
    let s = c.seat_lanes-locals in
    let start = new_start (g.D.Dir.files c.args.dir.value) (g.D.Dir.faults c.args.dir.value) c.args.next in
    are-locals (table_of c.in_ok-core.core) c.args.lanes start c.requires.lanes (λ x. x.seat) (λ x. (x.lane, x.handles, x.pins))
    s.result.items (subst (AreOpened (table_of c.in_ok-core.core) c.args.lanes start) (sym s.ensures.seated) c.in_ok-core.ensures.opened)
    s.ensures.first
