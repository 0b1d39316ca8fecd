use Rattle.std.proofs.Common.{ℕ, List, Some, None, refl, sym, ap, ◌∙◌, subst}
use Rattle.std.specs.Prelude.{slice_get}
use Rattle.sv_model.specs.declared.records.Family.{Family}
use Rattle.sv_model.specs.Books.{Books}
use Rattle.sv_state.specs.Currents.{HasCurrentAt}
use Rattle.sv_state.specs.Follows.{Follows}
use Rattle.sv_state.specs.Gone.{IsReleasedAs, TellsEnd}
use Rattle.sv_state.specs.Refs.{IsState}
use Rattle.sv_state.specs.Seen.{StateSeen}
use Rattle.sv_state.specs.Views.{books_of}
use Rattle.sv_state.proofs.Calls.{follows, same-books}
use Rattle.sv_state.proofs.Closings.{ended-tells, is-released, is-retired, made-before, made-top, release-law, retire-law, sets-state}
use Rattle.sv_state.proofs.Stays.{keeps-state}
use Rattle.sv_state.proofs.state.State.release.Goals as goal

pub returns-in-Err-clause-follows : goal.returns-in-Err-clause-follows
returns-in-Err-clause-follows c =
    let a : Books = books_of c.self.inside in
    let b : Books = record a { families = c.release.new.self } in
    subst (λ (z : StateSeen). Follows z.books b) c.self.view_is (follows a b (same-books a b c.self.invariant.sound (ap (λ (l : List Family). record a { families = l }) c.in-Err.ensures.kept)))

pub may_retire-requires : goal.may_retire-requires
may_retire-requires c =
    made-before (books_of c.self.inside) c.self.invariant.sound c.args.lane c.args.name.now c.in-Ok.family c.release.new.self c.in-Ok.ensures.changed

pub invariant_of-self-then-not-may_retire : goal.invariant_of-self-then-not-may_retire
invariant_of-self-then-not-may_retire c =
    let a : Books = books_of c.self.inside in
    let k = c.self.invariant.sound in
    let b : Books = record a { families = c.release.new.self } in
    let r = is-released a k c.args.lane c.args.name.now c.in-Ok.family c.release.new.self c.in-Ok.ensures.changed (c.may_retire.ensures ∙ ap Some c.if-not-may_retire.true) in
    keeps-state a b c.self.inside.held.items c.self.invariant (release-law a b k c.in-Ok.family c.args.lane r) refl

pub returns-then-not-may_retire-clause-released : goal.returns-then-not-may_retire-clause-released
returns-then-not-may_retire-clause-released c =
    let a : Books = books_of c.self.inside in
    let k = c.self.invariant.sound in
    let b : Books = record a { families = c.release.new.self } in
    let h = c.in-Ok.ensures.changed in
    let r = is-released a k c.args.lane c.args.name.now c.in-Ok.family c.release.new.self h (c.may_retire.ensures ∙ ap Some c.if-not-may_retire.true) in
    subst (λ (z : StateSeen). IsReleasedAs z.books b c.args.lane c.args.name.now None) c.self.view_is (c.in-Ok.family, h.it, h.at, h.was, r)

pub returns-then-not-may_retire-clause-follows : goal.returns-then-not-may_retire-clause-follows
returns-then-not-may_retire-clause-follows c =
    let a : Books = books_of c.self.inside in
    let k = c.self.invariant.sound in
    let b : Books = record a { families = c.release.new.self } in
    let r = is-released a k c.args.lane c.args.name.now c.in-Ok.family c.release.new.self c.in-Ok.ensures.changed (c.may_retire.ensures ∙ ap Some c.if-not-may_retire.true) in
    subst (λ (z : StateSeen). Follows z.books b) c.self.view_is (follows a b (release-law a b k c.in-Ok.family c.args.lane r))

pub take_current-old-requires-clause-within : goal.take_current-old-requires-clause-within
take_current-old-requires-clause-within c =
    made-top (books_of c.self.inside) c.self.invariant.sound c.args.lane c.args.name.now c.in-Ok.family c.release.new.self c.in-Ok.ensures.changed

pub invariant_of-self-2 : goal.invariant_of-self-2
invariant_of-self-2 c =
    let i = c.self.inside in
    let a : Books = books_of i in
    let k = c.self.invariant.sound in
    let f = c.in-Ok.family in
    let h = c.in-Ok.ensures.changed in
    let cur : HasCurrentAt a f = subst (λ (z : StateSeen). HasCurrentAt z.books f) (sym c.self.view_is) (c.requires.current f h.it (ap (λ (z : StateSeen). slice_get z.books.families f) (sym c.self.view_is) ∙ h.at) h.was) in
    let T = c.take_current-old.new.tops.items in
    let q = c.take_current-old.ensures.tops cur.top cur.at in
    let b : Books = record a { families = c.release.new.self; tops = T } in
    let r = is-retired a k c.args.lane c.args.name.now f c.release.new.self h (c.may_retire.ensures ∙ ap Some c.if-not-may_retire.false) cur T q in
    subst (IsState b) (sym c.take_current-old.ensures.held)
    (sets-state a b i.held.items c.self.invariant (retire-law a b k f c.args.lane r) f cur.top (record cur.top { current = None }) None cur.at q tt)

pub returns-clause-released : goal.returns-clause-released
returns-clause-released c =
    let i = c.self.inside in
    let a : Books = books_of i in
    let k = c.self.invariant.sound in
    let f = c.in-Ok.family in
    let h = c.in-Ok.ensures.changed in
    let cur : HasCurrentAt a f = subst (λ (z : StateSeen). HasCurrentAt z.books f) (sym c.self.view_is) (c.requires.current f h.it (ap (λ (z : StateSeen). slice_get z.books.families f) (sym c.self.view_is) ∙ h.at) h.was) in
    let T = c.take_current-old.new.tops.items in
    let q = c.take_current-old.ensures.tops cur.top cur.at in
    let b : Books = record a { families = c.release.new.self; tops = T } in
    let r = is-retired a k c.args.lane c.args.name.now f c.release.new.self h (c.may_retire.ensures ∙ ap Some c.if-not-may_retire.false) cur T q in
    subst (λ (z : StateSeen × ℕ). IsReleasedAs z.0.books b c.args.lane c.args.name.now (Some z.1)) (λ j. (c.self.view_is j, sym c.ended.ensures.family j)) (h.it, h.at, h.was, r)

pub returns-clause-follows : goal.returns-clause-follows
returns-clause-follows c =
    let i = c.self.inside in
    let a : Books = books_of i in
    let k = c.self.invariant.sound in
    let f = c.in-Ok.family in
    let h = c.in-Ok.ensures.changed in
    let cur : HasCurrentAt a f = subst (λ (z : StateSeen). HasCurrentAt z.books f) (sym c.self.view_is) (c.requires.current f h.it (ap (λ (z : StateSeen). slice_get z.books.families f) (sym c.self.view_is) ∙ h.at) h.was) in
    let T = c.take_current-old.new.tops.items in
    let q = c.take_current-old.ensures.tops cur.top cur.at in
    let b : Books = record a { families = c.release.new.self; tops = T } in
    let r = is-retired a k c.args.lane c.args.name.now f c.release.new.self h (c.may_retire.ensures ∙ ap Some c.if-not-may_retire.false) cur T q in
    subst (λ (z : StateSeen). Follows z.books b) c.self.view_is (follows a b (retire-law a b k f c.args.lane r))

pub returns-clause-tells : goal.returns-clause-tells
returns-clause-tells c =
    let i = c.self.inside in
    let a : Books = books_of i in
    subst (λ (z : StateSeen). TellsEnd z.books c.ended.result) c.self.view_is (ended-tells a i.held.items c.self.invariant.kept c.in-Ok.family c.take_current-old.result c.take_current-old.ensures.old c.ended.result c.ended.ensures.family c.ended.ensures.old c.ended.ensures.vacant)
