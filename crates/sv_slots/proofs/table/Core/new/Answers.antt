use Rattle.std.proofs.Common.{subst, sym}
use Rattle.sv_rule.specs.Begins.{FirstWords}
use Rattle.sv_slots.proofs.Begins.{begins}
use Rattle.sv_slots.proofs.table.Core.new.Goals as goal

pub new-requires : goal.new-requires
new-requires g c =
    begins g.P.Parts.books g.P.Parts.disk g.P.Parts.cell g.P.Parts.body c.args.lanes c.args.families c.requires.lanes.0
    c.requires.lanes.1 c.args.state c.of.result.value c.args.dir c.of-2.result.value c.args.cells.items
    c.as_slice.result.now c.lay.new.slots.items c.of.ensures c.of-2.ensures c.requires.books.0
    (subst (FirstWords c.args.families) (sym c.as_slice.ensures.value) c.in-Ok.ensures.words) c.lay.ensures
    c.requires.cells c.requires.books.1
