use Rattle.std.proofs.Common.{refl, subst}
use Rattle.sv_model.specs.Books.{Books}
use Rattle.sv_state.specs.Follows.{Follows}
use Rattle.sv_state.specs.Seen.{StateSeen}
use Rattle.sv_state.specs.Views.{books_of}
use Rattle.sv_state.proofs.Calls.{follows}
use Rattle.sv_state.proofs.Stays.{keeps-state}
use Rattle.sv_state.proofs.OtherCalls.{unsnap-changes, with_journal}
use Rattle.sv_state.proofs.state.State.unsnap.Goals as goal

pub invariant_of-self : goal.invariant_of-self
invariant_of-self c =
    let i = c.self.inside in
    let a : Books = books_of i in
    let k = c.self.invariant.sound in
    keeps-state a (with_journal a c.unsnap.new.self) i.held.items c.self.invariant (unsnap-changes a i.journal k c.unsnap.new.self c.args.id c.unsnap.result c.unsnap.ensures.ended c.unsnap.ensures.kept) refl

pub returns-clause-follows : goal.returns-clause-follows
returns-clause-follows c =
    let i = c.self.inside in
    let a : Books = books_of i in
    let k = c.self.invariant.sound in
    subst (λ (z : StateSeen). Follows z.books (with_journal a c.unsnap.new.self)) c.self.view_is (follows a (with_journal a c.unsnap.new.self) (unsnap-changes a i.journal k c.unsnap.new.self c.args.id c.unsnap.result c.unsnap.ensures.ended c.unsnap.ensures.kept))
