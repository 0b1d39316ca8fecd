use Rattle.std.proofs.Common.{◌≡◌, ◌∷◌, ◌++◌, [], List, refl, sym, ap, ◌∙◌, subst, arith}
use Rattle.sv_model.specs.declared.records.Descriptor.{Descriptor}
use Rattle.sv_model.specs.declared.records.FileMeta.{FileMeta}
use Rattle.sv_model.specs.Books.{Books}
use Rattle.sv_model.specs.Ranges.{reach_of}
use Rattle.sv_laws.proofs.GrownRegisters.{get_within}
use Rattle.sv_objects.specs.declared.bodies.Body.{Body}
use Rattle.sv_state.specs.Capturing.{CanBegin}
use Rattle.sv_state.specs.Follows.{Follows}
use Rattle.sv_state.specs.Seen.{StateSeen}
use Rattle.sv_state.specs.Views.{books_of}
use Rattle.sv_state.proofs.Calls.{follows, same-books}
use Rattle.sv_state.proofs.Captures.{begin-law, is-captured}
use Rattle.sv_state.proofs.References.{body-of, current-ref}
use Rattle.sv_state.proofs.Stays.{keeps-state}
use Rattle.sv_state.proofs.state.State.flush_begin.Goals as goal

pub returns-in_default-clause-follows : goal.returns-in_default-clause-follows
returns-in_default-clause-follows c =
    let a : Books = books_of c.self.inside in
    let b : Books = record a { metas = c.reserve.new.self.items } in
    subst (λ (z : StateSeen). Follows z.books b) c.self.view_is (follows a b (same-books a b c.self.invariant.sound (ap (λ (l : List FileMeta). record a { metas = l }) c.reserve.ensures.items)))

pub capture-requires-clause-within : goal.capture-requires-clause-within
capture-requires-clause-within c =
    let a : Books = books_of c.self.inside in
    let can : CanBegin a c.args.family = subst (λ (z : StateSeen). CanBegin z.books c.args.family) (sym c.self.view_is) c.requires in
    omega (arith, get_within a.families c.args.family can.is_open.family can.is_open.family_at, c.self.invariant.sound.lawful.limits.families)

pub returns-in_err-number-clause-follows : goal.returns-in_err-number-clause-follows
returns-in_err-number-clause-follows c =
    let a : Books = books_of c.self.inside in
    let b : Books = record a { files = c.capture.new.self; metas = c.reserve.new.self.items } in
    subst (λ (z : StateSeen). Follows z.books b) c.self.view_is (follows a b (same-books a b c.self.invariant.sound (λ i. record a { files = c.in_err-number.ensures.kept i; metas = c.reserve.ensures.items i })))

pub invariant_of-self-2 : goal.invariant_of-self-2
invariant_of-self-2 c =
    let i = c.self.inside in
    let a : Books = books_of i in
    let k = c.self.invariant.sound in
    let f = c.args.family in
    let can : CanBegin a f = subst (λ (z : StateSeen). CanBegin z.books f) (sym c.self.view_is) c.requires in
    let ref = current-ref a i.held.items c.self.invariant.kept f can.serial can.it can.is_open.current in
    let at = c.body_at-body.ensures ref.0 ref.1 in
    let w = body-of a can.serial ref.0.pack ref.0.body.value can.it can.is_open.current.has ref.2 in
    let file : FileMeta = c.file_over.result in
    let e = c.file_over.ensures in
    let from : file.from ≡ reach_of ref.0.body.value.files = ap (λ (z : FileMeta). z.from) e ∙ c.reach-from.ensures ∙ ap reach_of (c.as_slice.ensures ∙ ap (λ (z : Body). z.files) at) in
    let to : file.to ≡ can.it.descriptor.base = ap (λ (z : FileMeta). z.to) e ∙ ap (λ (z : Body). z.descriptor.base) at ∙ ap (λ (z : Descriptor). z.base) w.descriptor_is in
    let F = c.capture.new.self in
    let M = c.push_reserved.new.self.items in
    let caught = c.in_ok-number.ensures.captured in
    let law = begin-law a k f can ref.0.body.value w file F M from to (ap (λ (z : FileMeta). z.bottom.last) e)
    (is-captured a k f file F M can.idle c.in_ok-number.ensures.refused (ap (λ (z : FileMeta). z.number) e ∙ caught.0)
    (c.live_cuts-cuts.ensures file (ap (λ (z : FileMeta). z.from) e) (ap (λ (z : FileMeta). z.to) e) (ap (λ (z : FileMeta). z.bottom.cuts) e)) caught.1
    (c.push_reserved.ensures.items ∙ ap (λ (l : List FileMeta). l ++ file ∷ []) c.reserve.ensures.items)) in
    keeps-state a (record a { files = F; metas = M }) i.held.items c.self.invariant law refl

pub returns-clause-follows : goal.returns-clause-follows
returns-clause-follows c =
    let i = c.self.inside in
    let a : Books = books_of i in
    let k = c.self.invariant.sound in
    let f = c.args.family in
    let can : CanBegin a f = subst (λ (z : StateSeen). CanBegin z.books f) (sym c.self.view_is) c.requires in
    let ref = current-ref a i.held.items c.self.invariant.kept f can.serial can.it can.is_open.current in
    let at = c.body_at-body.ensures ref.0 ref.1 in
    let w = body-of a can.serial ref.0.pack ref.0.body.value can.it can.is_open.current.has ref.2 in
    let file : FileMeta = c.file_over.result in
    let e = c.file_over.ensures in
    let from : file.from ≡ reach_of ref.0.body.value.files = ap (λ (z : FileMeta). z.from) e ∙ c.reach-from.ensures ∙ ap reach_of (c.as_slice.ensures ∙ ap (λ (z : Body). z.files) at) in
    let to : file.to ≡ can.it.descriptor.base = ap (λ (z : FileMeta). z.to) e ∙ ap (λ (z : Body). z.descriptor.base) at ∙ ap (λ (z : Descriptor). z.base) w.descriptor_is in
    let F = c.capture.new.self in
    let M = c.push_reserved.new.self.items in
    let caught = c.in_ok-number.ensures.captured in
    let law = begin-law a k f can ref.0.body.value w file F M from to (ap (λ (z : FileMeta). z.bottom.last) e)
    (is-captured a k f file F M can.idle c.in_ok-number.ensures.refused (ap (λ (z : FileMeta). z.number) e ∙ caught.0)
    (c.live_cuts-cuts.ensures file (ap (λ (z : FileMeta). z.from) e) (ap (λ (z : FileMeta). z.to) e) (ap (λ (z : FileMeta). z.bottom.cuts) e)) caught.1
    (c.push_reserved.ensures.items ∙ ap (λ (l : List FileMeta). l ++ file ∷ []) c.reserve.ensures.items)) in
    subst (λ (z : StateSeen). Follows z.books (record a { files = F; metas = M })) c.self.view_is (follows a (record a { files = F; metas = M }) law)
