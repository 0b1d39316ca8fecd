use Rattle.std.proofs.Common.{◌<◌, ℕ, refl, sym, subst}
use Rattle.sv_model.specs.Books.{Books}
use Rattle.sv_state.specs.Follows.{Follows}
use Rattle.sv_state.specs.Seen.{StateSeen}
use Rattle.sv_state.specs.Views.{books_of}
use Rattle.sv_state.proofs.Calls.{follows}
use Rattle.sv_state.proofs.Stays.{keeps-state}
use Rattle.sv_state.proofs.FileCalls.{find-changes}
use Rattle.sv_model.specs.Numbers.{IsReady}
use Rattle.sv_model.specs.Refusals.{RefusesExactly}
use Rattle.sv_files.specs.Calls.{disabled}
use Rattle.sv_state.proofs.state.State.find_obsolete.Goals as goal

pub invariant_of-self : goal.invariant_of-self
invariant_of-self c =
    let i = c.self.inside in
    let a : Books = books_of i in
    let k = c.self.invariant.sound in
    let few : a.files.jobs < 32 = subst (λ (z : StateSeen). z.books.files.jobs < 32) (sym c.self.view_is) c.requires in
    keeps-state a (record a { files = c.find_obsolete.new.self }) i.held.items c.self.invariant (find-changes a k c.find_obsolete.new.self (λ v. v.items) c.find_obsolete.result few c.find_obsolete.ensures.found c.find_obsolete.ensures.kept) refl

pub returns-clause-follows : goal.returns-clause-follows
returns-clause-follows c =
    let i = c.self.inside in
    let a : Books = books_of i in
    let k = c.self.invariant.sound in
    let few : a.files.jobs < 32 = subst (λ (z : StateSeen). z.books.files.jobs < 32) (sym c.self.view_is) c.requires in
    subst (λ (z : StateSeen). Follows z.books (record a { files = c.find_obsolete.new.self })) c.self.view_is (follows a (record a { files = c.find_obsolete.new.self }) (find-changes a k c.find_obsolete.new.self (λ v. v.items) c.find_obsolete.result few c.find_obsolete.ensures.found c.find_obsolete.ensures.kept))

pub returns-clause-none : goal.returns-clause-none
returns-clause-none c =
    subst (λ (z : StateSeen). ((n : ℕ) → IsReady z.books.files n → ⊥) → RefusesExactly (disabled z.books.files) c.find_obsolete.result) c.self.view_is c.find_obsolete.ensures.none
