use Rattle.std.proofs.Common.{refl, subst}
use Rattle.sv_model.specs.Books.{Books}
use Rattle.sv_state.specs.Follows.{Follows}
use Rattle.sv_state.specs.Seen.{StateSeen}
use Rattle.sv_state.specs.Views.{books_of}
use Rattle.sv_state.proofs.Calls.{follows}
use Rattle.sv_state.proofs.Stays.{keeps-state}
use Rattle.sv_state.proofs.OtherCalls.{snap-changes, with_journal}
use Rattle.sv_state.proofs.state.State.snap.Goals as goal

pub invariant_of-self : goal.invariant_of-self
invariant_of-self c =
    let i = c.self.inside in
    let a : Books = books_of i in
    let k = c.self.invariant.sound in
    keeps-state a (with_journal a c.snap.new.self) i.held.items c.self.invariant (snap-changes a i.journal k c.snap.new.self c.snap.result c.snap.ensures.made c.snap.ensures.refused c.snap.ensures.kept) refl

pub returns-clause-follows : goal.returns-clause-follows
returns-clause-follows c =
    let i = c.self.inside in
    let a : Books = books_of i in
    let k = c.self.invariant.sound in
    subst (λ (z : StateSeen). Follows z.books (with_journal a c.snap.new.self)) c.self.view_is (follows a (with_journal a c.snap.new.self) (snap-changes a i.journal k c.snap.new.self c.snap.result c.snap.ensures.made c.snap.ensures.refused c.snap.ensures.kept))
