use Rattle.std.proofs.Common.{None, sym, subst}
use Rattle.sv_model.specs.Books.{Books}
use Rattle.sv_laws.specs.Families.{IsForgotten}
use Rattle.sv_state.specs.Currents.{CanRetire}
use Rattle.sv_state.specs.Follows.{Follows}
use Rattle.sv_state.specs.Gone.{TellsEnd}
use Rattle.sv_state.specs.Refs.{IsState}
use Rattle.sv_state.specs.Seen.{StateSeen}
use Rattle.sv_state.specs.Views.{books_of}
use Rattle.sv_state.proofs.Calls.{follows}
use Rattle.sv_state.proofs.Closings.{ended-tells, forget-changes, forget-law, sets-state}
use Rattle.sv_state.proofs.state.State.retire.Goals as goal

pub invariant_of-self : goal.invariant_of-self
invariant_of-self c =
    let i = c.self.inside in
    let a : Books = books_of i in
    let k = c.self.invariant.sound in
    let can : CanRetire a c.args.family = subst (λ (z : StateSeen). CanRetire z.books c.args.family) (sym c.self.view_is) c.requires in
    let T = c.take_current-old.new.tops.items in
    let q = c.take_current-old.ensures.tops can.current.top can.current.at in
    let b : Books = record a { families = c.retire.new.self; tops = T } in
    subst (IsState b) (sym c.take_current-old.ensures.held)
    (sets-state a b i.held.items c.self.invariant (forget-law a b k c.args.family (forget-changes a c.args.family can.current c.retire.new.self c.retire.ensures.changed T q)) c.args.family can.current.top (record can.current.top { current = None }) None can.current.at q tt)

pub returns-clause-retired : goal.returns-clause-retired
returns-clause-retired c =
    let i = c.self.inside in
    let a : Books = books_of i in
    let can : CanRetire a c.args.family = subst (λ (z : StateSeen). CanRetire z.books c.args.family) (sym c.self.view_is) c.requires in
    let T = c.take_current-old.new.tops.items in
    let q = c.take_current-old.ensures.tops can.current.top can.current.at in
    let b : Books = record a { families = c.retire.new.self; tops = T } in
    subst (λ (z : StateSeen). IsForgotten z.books b c.args.family) c.self.view_is (forget-changes a c.args.family can.current c.retire.new.self c.retire.ensures.changed T q)

pub returns-clause-follows : goal.returns-clause-follows
returns-clause-follows c =
    let i = c.self.inside in
    let a : Books = books_of i in
    let k = c.self.invariant.sound in
    let can : CanRetire a c.args.family = subst (λ (z : StateSeen). CanRetire z.books c.args.family) (sym c.self.view_is) c.requires in
    let T = c.take_current-old.new.tops.items in
    let q = c.take_current-old.ensures.tops can.current.top can.current.at in
    let b : Books = record a { families = c.retire.new.self; tops = T } in
    subst (λ (z : StateSeen). Follows z.books b) c.self.view_is (follows a b (forget-law a b k c.args.family (forget-changes a c.args.family can.current c.retire.new.self c.retire.ensures.changed T q)))

pub returns-clause-tells : goal.returns-clause-tells
returns-clause-tells c =
    let i = c.self.inside in
    let a : Books = books_of i in
    subst (λ (z : StateSeen). TellsEnd z.books c.ended.result) c.self.view_is (ended-tells a i.held.items c.self.invariant.kept c.args.family c.take_current-old.result c.take_current-old.ensures.old c.ended.result c.ended.ensures.family c.ended.ensures.old c.ended.ensures.vacant)
