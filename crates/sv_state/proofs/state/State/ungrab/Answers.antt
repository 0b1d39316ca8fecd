use Rattle.std.proofs.Common.{refl, subst}
use Rattle.sv_model.specs.Books.{Books}
use Rattle.sv_state.specs.Follows.{Follows}
use Rattle.sv_state.specs.Seen.{StateSeen}
use Rattle.sv_state.specs.Views.{books_of}
use Rattle.sv_state.proofs.Calls.{follows}
use Rattle.sv_state.proofs.Stays.{keeps-state}
use Rattle.sv_state.proofs.FileCalls.{ungrab-changes}
use Rattle.sv_state.proofs.state.State.ungrab.Goals as goal

pub invariant_of-self : goal.invariant_of-self
invariant_of-self c =
    let i = c.self.inside in
    let a : Books = books_of i in
    let k = c.self.invariant.sound in
    keeps-state a (record a { files = c.ungrab.new.self }) i.held.items c.self.invariant (ungrab-changes a k c.ungrab.new.self c.args.number c.args.gone c.ungrab.ensures) refl

pub returns-clause-follows : goal.returns-clause-follows
returns-clause-follows c =
    let i = c.self.inside in
    let a : Books = books_of i in
    let k = c.self.invariant.sound in
    subst (λ (z : StateSeen). Follows z.books (record a { files = c.ungrab.new.self })) c.self.view_is (follows a (record a { files = c.ungrab.new.self }) (ungrab-changes a k c.ungrab.new.self c.args.number c.args.gone c.ungrab.ensures))
