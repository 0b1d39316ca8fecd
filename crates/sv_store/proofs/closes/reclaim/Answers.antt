use Rattle.std.proofs.Common.{sym, ◌∙◌, subst}
use Rattle.sv_model.specs.declared.sv_refs.SvRef.{SvRef}
use Rattle.sv_model.proofs.Entries.{some}
use Rattle.sv_laws.specs.Cleaning.{IsCleaned}
use Rattle.sv_objects.specs.declared.bodies.Body.{Body}
use Rattle.sv_state.specs.Gone.{IsFree}
use Rattle.sv_store.proofs.closes.reclaim.Goals as goal

pub returns-clause-goes : goal.returns-clause-goes
returns-clause-goes c r e =
    subst (λ (z : SvRef Body). (free : IsFree c.args.state.now.books z.pack) → IsCleaned c.args.state.now.books c.cleanup.new.self.books free.serial free.it)
    (some (sym c.in-Some.is ∙ e))
    (λ free. (c.cleanup.ensures.gone free).cleaned)
