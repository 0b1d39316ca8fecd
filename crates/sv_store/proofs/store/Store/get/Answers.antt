use Rattle.std.proofs.Common.{sym, ap, ◌∙◌, subst, length}
use Rattle.sv_model.specs.Journal.{of_family}
use Rattle.sv_state.specs.Currents.{HasCurrentAt}
use Rattle.sv_store.specs.Reading.{CanReadAt}
use Rattle.sv_store.specs.Seen.{StoreSeen}
use Rattle.sv_store.proofs.ReadCalls.{can-read-end, own-current}
use Rattle.sv_store.proofs.store.Store.get.Goals as goal

pub end-cut-requires : goal.end-cut-requires
end-cut-requires g c = subst (λ (z : StoreSeen). HasCurrentAt z.books c.in-Ok.family) c.self.view_is
    (own-current c.self.inside.state.books c.self.inside.cells c.self.invariant.stands c.args.name.now c.in-Ok.family c.in-Ok.ensures.found)

pub read_at-requires : goal.read_at-requires
read_at-requires g c = subst (λ (z : StoreSeen). CanReadAt z.books c.in-Ok.family c.end-cut.result) c.self.view_is
    (can-read-end c.self.inside.state.books c.self.inside.cells c.self.invariant.stands c.args.name.now c.in-Ok.family c.in-Ok.ensures.found c.end-cut.result
    (c.end-cut.ensures ∙ ap (λ (z : StoreSeen). length (of_family c.in-Ok.family z.books.journal)) (sym c.self.view_is)))
