use Rattle.std.proofs.Common.{◌≡◌, ◌+◌, refl, subst}
use Rattle.sv_model.specs.Books.{Books}
use Rattle.sv_state.specs.Follows.{Follows}
use Rattle.sv_state.specs.Seen.{StateSeen}
use Rattle.sv_state.specs.Views.{books_of}
use Rattle.sv_state.proofs.Calls.{follows}
use Rattle.sv_state.proofs.Stays.{keeps-state}
use Rattle.std.specs.Prelude.{slice_index}
use Rattle.sv_state.proofs.FileCalls.{hold-changes, holds-change}
use Rattle.sv_state.proofs.state.State.hold.Goals as goal

pub invariant_of-self : goal.invariant_of-self
invariant_of-self c =
    let i = c.self.inside in
    let a : Books = books_of i in
    let k = c.self.invariant.sound in
    keeps-state a (record a { files = c.hold-held.new.self }) i.held.items c.self.invariant (holds-change a k c.hold-held.new.self (hold-changes a k c.hold-held.new.self c.args.lane (λ count. count ≡ slice_index a.files.holds c.args.lane + 1) c.hold-held.result c.hold-held.ensures.held c.hold-held.ensures.kept) c.laws.ensures) refl

pub returns-clause-follows : goal.returns-clause-follows
returns-clause-follows c =
    let i = c.self.inside in
    let a : Books = books_of i in
    let k = c.self.invariant.sound in
    subst (λ (z : StateSeen). Follows z.books (record a { files = c.hold-held.new.self })) c.self.view_is (follows a (record a { files = c.hold-held.new.self }) (holds-change a k c.hold-held.new.self (hold-changes a k c.hold-held.new.self c.args.lane (λ count. count ≡ slice_index a.files.holds c.args.lane + 1) c.hold-held.result c.hold-held.ensures.held c.hold-held.ensures.kept) c.laws.ensures))
