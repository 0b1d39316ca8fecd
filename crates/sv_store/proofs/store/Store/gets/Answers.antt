use Rattle.std.proofs.Common.{subst}
use Rattle.sv_store.specs.Reading.{CanReadAt}
use Rattle.sv_store.specs.Seen.{StoreSeen}
use Rattle.sv_store.proofs.ReadCalls.{can-read-cut}
use Rattle.sv_store.proofs.store.Store.gets.Goals as goal

pub read_at-requires : goal.read_at-requires
read_at-requires g c = subst (λ (z : StoreSeen). CanReadAt z.books c.in-Ok.family c.in-Ok-cut_at.cut) c.self.view_is
    (can-read-cut c.self.inside.state.books c.self.inside.cells c.self.invariant.stands c.args.name.now c.in-Ok.family c.in-Ok.ensures.found c.args.snapshot c.in-Ok-cut_at.cut
    c.in-Ok-cut_at.ensures.cut)
