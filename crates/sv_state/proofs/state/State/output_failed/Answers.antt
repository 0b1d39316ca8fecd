use Rattle.std.proofs.Common.{refl, subst}
use Rattle.sv_model.specs.Books.{Books}
use Rattle.sv_state.specs.Follows.{Follows}
use Rattle.sv_state.specs.Seen.{StateSeen}
use Rattle.sv_state.specs.Views.{books_of}
use Rattle.sv_state.proofs.Calls.{follows}
use Rattle.sv_state.proofs.Captures.{give-up-law}
use Rattle.sv_state.proofs.Stays.{keeps-state}
use Rattle.sv_state.proofs.state.State.output_failed.Goals as goal

pub invariant_of-self : goal.invariant_of-self
invariant_of-self c =
    let a : Books = books_of c.self.inside in
    keeps-state a (record a { files = c.settle.new.self }) c.self.inside.held.items c.self.invariant (give-up-law a c.self.invariant.sound c.args.number c.settle.new.self c.settle.ensures) refl

pub returns-clause-follows : goal.returns-clause-follows
returns-clause-follows c =
    let a : Books = books_of c.self.inside in
    subst (λ (z : StateSeen). Follows z.books (record a { files = c.settle.new.self })) c.self.view_is (follows a (record a { files = c.settle.new.self }) (give-up-law a c.self.invariant.sound c.args.number c.settle.new.self c.settle.ensures))
