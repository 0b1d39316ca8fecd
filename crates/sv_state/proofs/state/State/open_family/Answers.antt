use Rattle.std.proofs.Common.{refl, subst}
use Rattle.sv_model.specs.Books.{Books}
use Rattle.sv_state.specs.Follows.{Follows}
use Rattle.sv_state.specs.Seen.{StateSeen}
use Rattle.sv_state.specs.Views.{books_of}
use Rattle.sv_state.proofs.Calls.{follows}
use Rattle.sv_state.proofs.Stays.{keeps-state}
use Rattle.sv_state.proofs.OtherCalls.{open-changes}
use Rattle.sv_state.proofs.state.State.open_family.Goals as goal

pub invariant_of-self : goal.invariant_of-self
invariant_of-self c =
    let i = c.self.inside in
    let a : Books = books_of i in
    let k = c.self.invariant.sound in
    keeps-state a (record a { families = c.open_family.new.self }) i.held.items c.self.invariant (open-changes a k c.args.lane c.args.name.now c.open_family.new.self c.open_family.result c.open_family.ensures.changed c.open_family.ensures.kept) refl

pub returns-clause-follows : goal.returns-clause-follows
returns-clause-follows c =
    let i = c.self.inside in
    let a : Books = books_of i in
    let k = c.self.invariant.sound in
    subst (λ (z : StateSeen). Follows z.books (record a { families = c.open_family.new.self })) c.self.view_is (follows a (record a { families = c.open_family.new.self }) (open-changes a k c.args.lane c.args.name.now c.open_family.new.self c.open_family.result c.open_family.ensures.changed c.open_family.ensures.kept))
