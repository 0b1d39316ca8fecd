use Rattle.std.proofs.Common.{◌≡◌, refl, subst, sym}
use Rattle.sv_model.specs.Books.{Books, FileRegister}
use Rattle.sv_state.specs.Follows.{Follows}
use Rattle.sv_state.specs.Seen.{StateSeen}
use Rattle.sv_state.specs.Views.{books_of}
use Rattle.sv_state.proofs.Calls.{follows}
use Rattle.sv_state.proofs.Stays.{keeps-state}
use Rattle.sv_state.proofs.FileCalls.{holds-change}
use Rattle.sv_state.proofs.state.State.end_holds.Goals as goal

pub invariant_of-self : goal.invariant_of-self
invariant_of-self c =
    let i = c.self.inside in
    let a : Books = books_of i in
    let F = c.end_holds.new.self in
    keeps-state a (record a { files = F }) i.held.items c.self.invariant (holds-change a c.self.invariant.sound F (subst (λ (z : FileRegister). z ≡ record a.files { holds = z.holds; jobs = z.jobs }) (sym c.end_holds.ensures) refl) c.laws.ensures) refl

pub returns-clause-follows : goal.returns-clause-follows
returns-clause-follows c =
    let i = c.self.inside in
    let a : Books = books_of i in
    let F = c.end_holds.new.self in
    subst (λ (z : StateSeen). Follows z.books (record a { files = F })) c.self.view_is (follows a (record a { files = F }) (holds-change a c.self.invariant.sound F (subst (λ (z : FileRegister). z ≡ record a.files { holds = z.holds; jobs = z.jobs }) (sym c.end_holds.ensures) refl) c.laws.ensures))
