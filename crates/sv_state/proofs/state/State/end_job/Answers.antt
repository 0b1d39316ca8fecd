use Rattle.std.proofs.Common.{◌≡◌, refl, sym, subst}
use Rattle.sv_model.specs.Books.{Books}
use Rattle.sv_state.specs.Follows.{Follows}
use Rattle.sv_state.specs.Seen.{StateSeen}
use Rattle.sv_state.specs.Views.{books_of}
use Rattle.sv_state.proofs.Calls.{follows}
use Rattle.sv_state.proofs.Stays.{keeps-state}
use Rattle.sv_model.specs.Books.{FileRegister}
use Rattle.sv_state.proofs.FileCalls.{holds-change}
use Rattle.sv_state.proofs.state.State.end_job.Goals as goal

pub invariant_of-self : goal.invariant_of-self
invariant_of-self c =
    let i = c.self.inside in
    let a : Books = books_of i in
    let k = c.self.invariant.sound in
    keeps-state a (record a { files = c.end_job.new.self }) i.held.items c.self.invariant (holds-change a k c.end_job.new.self (subst (λ (z : FileRegister). z ≡ record a.files { holds = z.holds; jobs = z.jobs }) (sym c.end_job.ensures) refl) c.laws.ensures) refl

pub returns-clause-follows : goal.returns-clause-follows
returns-clause-follows c =
    let i = c.self.inside in
    let a : Books = books_of i in
    let k = c.self.invariant.sound in
    subst (λ (z : StateSeen). Follows z.books (record a { files = c.end_job.new.self })) c.self.view_is (follows a (record a { files = c.end_job.new.self }) (holds-change a k c.end_job.new.self (subst (λ (z : FileRegister). z ≡ record a.files { holds = z.holds; jobs = z.jobs }) (sym c.end_job.ensures) refl) c.laws.ensures))
