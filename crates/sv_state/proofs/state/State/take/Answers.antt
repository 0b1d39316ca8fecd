use Rattle.std.proofs.Common.{◌<◌, refl, sym, subst, arith}
use Rattle.sv_model.specs.Books.{Books}
use Rattle.sv_state.specs.Follows.{Follows}
use Rattle.sv_state.specs.Seen.{StateSeen}
use Rattle.sv_state.specs.Views.{books_of}
use Rattle.sv_state.proofs.Calls.{follows}
use Rattle.sv_state.proofs.Stays.{keeps-state}
use Rattle.sv_state.proofs.FileCalls.{take-changes}
use Rattle.sv_state.proofs.state.State.take.Goals as goal

pub invariant_of-self : goal.invariant_of-self
invariant_of-self c =
    let i = c.self.inside in
    let a : Books = books_of i in
    let k = c.self.invariant.sound in
    let few : a.files.jobs < 32 = subst (λ (z : StateSeen). z.books.files.jobs < 32) (sym c.self.view_is) c.requires in
    keeps-state a (record a { files = c.take.new.self }) i.held.items c.self.invariant (take-changes a k c.take.new.self c.args.number c.take.result (omega (arith, few)) c.take.ensures.exactly.0 c.take.ensures.taken c.take.ensures.kept) refl

pub returns-clause-follows : goal.returns-clause-follows
returns-clause-follows c =
    let i = c.self.inside in
    let a : Books = books_of i in
    let k = c.self.invariant.sound in
    let few : a.files.jobs < 32 = subst (λ (z : StateSeen). z.books.files.jobs < 32) (sym c.self.view_is) c.requires in
    subst (λ (z : StateSeen). Follows z.books (record a { files = c.take.new.self })) c.self.view_is (follows a (record a { files = c.take.new.self }) (take-changes a k c.take.new.self c.args.number c.take.result (omega (arith, few)) c.take.ensures.exactly.0 c.take.ensures.taken c.take.ensures.kept))
