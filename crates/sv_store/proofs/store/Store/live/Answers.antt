use Rattle.std.specs.Prelude.{IfOk}
use Rattle.std.proofs.Common.{subst}
use Rattle.sv_model.specs.Numbers.{AreInOrder}
use Rattle.sv_store.specs.LiveFiles.{IsCurrentFile, StandingHaveCurrents}
use Rattle.sv_store.specs.Seen.{StoreSeen}
use Rattle.sv_store.proofs.LiveLaws.{have-currents, order-if}
use Rattle.sv_store.proofs.store.Store.live.Goals as goal

pub returns-clause-current : goal.returns-clause-current
returns-clause-current c = subst (λ (z : StoreSeen). IfOk c.live_files.result (λ files. AreInOrder (IsCurrentFile z.books) files.items)) c.self.view_is
    (order-if c.self.inside.state.books c.self.inside.cells c.self.invariant.stands c.live_files.result (λ files. files.items) c.live_files.ensures.shown)

pub returns-clause-have_currents : goal.returns-clause-have_currents
returns-clause-have_currents c = subst (λ (z : StoreSeen). StandingHaveCurrents z.books) c.self.view_is
    (have-currents c.self.inside.state.books c.self.inside.cells c.self.invariant.stands)
