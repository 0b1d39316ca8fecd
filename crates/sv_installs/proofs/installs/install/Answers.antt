use Rattle.std.proofs.Common.{None, ap, subst, sym, ◌∙◌}
use Rattle.sv_installs.proofs.Renewing.{begins-plain, installs-plain, new-current, opens-plain}
use Rattle.sv_model.specs.Books.{Books}
use Rattle.sv_state.specs.Currents.{HasCurrentAt}
use Rattle.sv_state.specs.Seen.{StateSeen}
use Rattle.sv_installs.proofs.installs.install.Goals as goal

pub current-requires : goal.current-requires
current-requires g c =
    subst (λ (z : Books). HasCurrentAt z c.args.family) (sym (ap (λ (z : StateSeen). z.books) (c.deref.ensures ∙ c.held.view_is)))
    (new-current c.args.held.now.books c.args.family c.args.old.pack None c.args.seat.now.seat.me.0 c.requires.may)

pub make_current-requires-clause-may : goal.make_current-requires-clause-may
make_current-requires-clause-may g c =
    opens-plain c.args.held.now.books c.args.family c.args.old.pack c.args.seat.now.seat.me.0 c.requires.may
    c.deref.result.now.books (ap (λ (z : StateSeen). z.books) (c.deref.ensures ∙ c.held.view_is))
    c.current.result.now.pack c.current.result.now.body.value c.current.ensures

pub retire-requires-clause-begins : goal.retire-requires-clause-begins
retire-requires-clause-begins g c =
    begins-plain c.args.held.now.books c.args.family c.args.old.pack c.args.seat.now.seat.me.0 c.requires.may
    c.deref.result.now.books (ap (λ (z : StateSeen). z.books) (c.deref.ensures ∙ c.held.view_is))
    c.current.result.now.pack c.current.result.now.body.value c.current.ensures
    c.make_current.new.seat.seat.me.0 c.make_current.ensures.installed

pub returns-clause-installs : goal.returns-clause-installs
returns-clause-installs g c =
    installs-plain c.args.held.now.books c.args.family c.args.old.pack c.args.seat.now.seat.me.0 c.requires.may
    c.deref.result.now.books (ap (λ (z : StateSeen). z.books) (c.deref.ensures ∙ c.held.view_is))
    c.current.result.now.pack c.current.result.now.body.value c.current.ensures
    c.make_current.new.seat.seat.me.0 c.make_current.ensures.installed
    c.retire.new.held.books c.retire.new.seat.seat.me.0 c.retire.ensures.reclaimed
