use Rattle.std.proofs.Common.{◌≡◌, ◌<◌, ◌∷◌, ◌++◌, inr, List, [], length, refl, sym, ap, ◌∙◌, subst}
use Rattle.std.specs.Prelude.{Ok}
use Rattle.sv_model.specs.Books.{Books}
use Rattle.sv_objects.specs.declared.bodies.Body.{Body}
use Rattle.sv_state.specs.Planning.{MeantAt, Planned}
use Rattle.sv_state.specs.Seen.{StateSeen}
use Rattle.sv_state.specs.Views.{books_of}
use Rattle.sv_state.proofs.Plannings.{due-exactly, files-are, meant, merge-refused, only-memory}
use Rattle.sv_model.specs.declared.records.FileMeta.{FileMeta}
use Rattle.sv_model.specs.declared.refusals.Refusal.TheVariants.{OutOfMemory}
use Rattle.sv_model.specs.Books.{FileRegister}
use Rattle.sv_model.specs.Ranges.{reach_of}
use Rattle.sv_files.specs.Calls.{capture_refusal}
use Rattle.sv_laws.specs.Captures.{IsMergePlanned}
use Rattle.sv_state.specs.Follows.{Follows}
use Rattle.sv_state.specs.Planning.{compact_due, compact_refusal}
use Rattle.sv_state.proofs.Calls.{follows, same-books}
use Rattle.sv_state.proofs.Captures.{is-captured, is-merge-planned, merge-law}
use Rattle.sv_state.proofs.Stays.{keeps-state}
use Rattle.sv_state.proofs.Finding.{meant-body, meant-it, meant-kept, meant-open, meant-so, meant-within}
use Rattle.sv_state.proofs.state.State.compact_plan.Goals as goal

pub body_at-body-requires : goal.body_at-body-requires
body_at-body-requires c =
    let i = c.self.inside in
    let a : Books = books_of i in
    let k = c.self.invariant.sound in
    let f = c.in-Ok.family in
    let lane = c.args.lane in
    let name = c.args.name.now in
    let x = meant-so a c.args.self.now.books (ap (λ (z : StateSeen). z.books) c.self.view_is) lane name f c.in-Ok.ensures.found c.requires.current in
    meant-kept a i.held.items c.self.invariant lane name f x

pub due_compaction-requires : goal.due_compaction-requires
due_compaction-requires c =
    let i = c.self.inside in
    let a : Books = books_of i in
    let k = c.self.invariant.sound in
    let f = c.in-Ok.family in
    let lane = c.args.lane in
    let name = c.args.name.now in
    let x = meant-so a c.args.self.now.books (ap (λ (z : StateSeen). z.books) c.self.view_is) lane name f c.in-Ok.ensures.found c.requires.current in
    meant-within a i.held.items c.self.invariant lane name f x

pub live_cuts-cuts-requires : goal.live_cuts-cuts-requires
live_cuts-cuts-requires c =
    let i = c.self.inside in
    let a : Books = books_of i in
    let k = c.self.invariant.sound in
    let f = c.in-Ok.family in
    let lane = c.args.lane in
    let name = c.args.name.now in
    let x = meant-so a c.args.self.now.books (ap (λ (z : StateSeen). z.books) c.self.view_is) lane name f c.in-Ok.ensures.found c.requires.current in
    meant-within a i.held.items c.self.invariant lane name f x

pub capture-requires-clause-within : goal.capture-requires-clause-within
capture-requires-clause-within c =
    let i = c.self.inside in
    let a : Books = books_of i in
    let k = c.self.invariant.sound in
    let f = c.in-Ok.family in
    let lane = c.args.lane in
    let name = c.args.name.now in
    let x = meant-so a c.args.self.now.books (ap (λ (z : StateSeen). z.books) c.self.view_is) lane name f c.in-Ok.ensures.found c.requires.current in
    meant-within a i.held.items c.self.invariant lane name f x

pub returns-in-Err-due_compaction-clause-planned : goal.returns-in-Err-due_compaction-clause-planned
returns-in-Err-due_compaction-clause-planned c =
    let i = c.self.inside in
    let a : Books = books_of i in
    let k = c.self.invariant.sound in
    let f = c.in-Ok.family in
    let lane = c.args.lane in
    let name = c.args.name.now in
    let x = meant-so a c.args.self.now.books (ap (λ (z : StateSeen). z.books) c.self.view_is) lane name f c.in-Ok.ensures.found c.requires.current in
    let old : Body = c.body_at-body.result.now in
    let w = meant-body a i.held.items c.self.invariant lane name f x old c.body_at-body.ensures in
    let m : MeantAt a lane name = meant a k lane name f x.it x.at x.own x.stands x.current in
    let due_is : compact_due a.files a.journal a.snapshots f c.as_slice-files.result.now ≡ compact_refusal a m = ap (compact_due a.files a.journal a.snapshots f) (c.as_slice-files.ensures ∙ files-are a k lane name f x.it x.at x.own x.stands x.current old w) in
    merge-refused a c.args.self.now.books (ap (λ (z : StateSeen). z.books) c.self.view_is) lane name (λ n g. Unit {0}) m c.in-Err-due_compaction.refusal (due-exactly (compact_refusal a m) c.in-Err-due_compaction.refusal (sym due_is ∙ c.in-Err-due_compaction.ensures.refused))

pub returns-in_default-clause-planned : goal.returns-in_default-clause-planned
returns-in_default-clause-planned c =
    let i = c.self.inside in
    let a : Books = books_of i in
    let k = c.self.invariant.sound in
    let f = c.in-Ok.family in
    let lane = c.args.lane in
    let name = c.args.name.now in
    let x = meant-so a c.args.self.now.books (ap (λ (z : StateSeen). z.books) c.self.view_is) lane name f c.in-Ok.ensures.found c.requires.current in
    let old : Body = c.body_at-body.result.now in
    let w = meant-body a i.held.items c.self.invariant lane name f x old c.body_at-body.ensures in
    let m : MeantAt a lane name = meant a k lane name f x.it x.at x.own x.stands x.current in
    let due_is : compact_due a.files a.journal a.snapshots f c.as_slice-files.result.now ≡ compact_refusal a m = ap (compact_due a.files a.journal a.snapshots f) (c.as_slice-files.ensures ∙ files-are a k lane name f x.it x.at x.own x.stands x.current old w) in
    merge-refused a c.args.self.now.books (ap (λ (z : StateSeen). z.books) c.self.view_is) lane name (λ n g. Unit {0}) m OutOfMemory tt

pub returns-in_default-clause-follows : goal.returns-in_default-clause-follows
returns-in_default-clause-follows c =
    let a : Books = books_of c.self.inside in
    let b : Books = record a { metas = c.reserve.new.self.items } in
    subst (λ (z : StateSeen). Follows z.books b) c.self.view_is (follows a b (same-books a b c.self.invariant.sound (ap (λ (l : List FileMeta). record a { metas = l }) c.reserve.ensures.items)))

pub returns-in-Err-capture-clause-planned : goal.returns-in-Err-capture-clause-planned
returns-in-Err-capture-clause-planned c =
    let i = c.self.inside in
    let a : Books = books_of i in
    let k = c.self.invariant.sound in
    let f = c.in-Ok.family in
    let lane = c.args.lane in
    let name = c.args.name.now in
    let x = meant-so a c.args.self.now.books (ap (λ (z : StateSeen). z.books) c.self.view_is) lane name f c.in-Ok.ensures.found c.requires.current in
    let old : Body = c.body_at-body.result.now in
    let w = meant-body a i.held.items c.self.invariant lane name f x old c.body_at-body.ensures in
    let m : MeantAt a lane name = meant a k lane name f x.it x.at x.own x.stands x.current in
    let due_is : compact_due a.files a.journal a.snapshots f c.as_slice-files.result.now ≡ compact_refusal a m = ap (compact_due a.files a.journal a.snapshots f) (c.as_slice-files.ensures ∙ files-are a k lane name f x.it x.at x.own x.stands x.current old w) in
    merge-refused a c.args.self.now.books (ap (λ (z : StateSeen). z.books) c.self.view_is) lane name (λ n g. Unit {0}) m c.in-Err-capture.refusal (only-memory (capture_refusal a.files) (compact_refusal a m) c.in-Err-capture.refusal c.in-Ok-due_compaction.ensures.may c.in-Err-capture.ensures.refused)

pub returns-in-Err-capture-clause-follows : goal.returns-in-Err-capture-clause-follows
returns-in-Err-capture-clause-follows c =
    let a : Books = books_of c.self.inside in
    let b : Books = record a { files = c.capture.new.self; metas = c.reserve.new.self.items } in
    subst (λ (z : StateSeen). Follows z.books b) c.self.view_is (follows a b (same-books a b c.self.invariant.sound (λ i. record a { files = c.in-Err-capture.ensures.kept i; metas = c.reserve.ensures.items i })))

pub invariant_of-self-2 : goal.invariant_of-self-2
invariant_of-self-2 c =
    let i = c.self.inside in
    let a : Books = books_of i in
    let k = c.self.invariant.sound in
    let f = c.in-Ok.family in
    let lane = c.args.lane in
    let name = c.args.name.now in
    let x = meant-so a c.args.self.now.books (ap (λ (z : StateSeen). z.books) c.self.view_is) lane name f c.in-Ok.ensures.found c.requires.current in
    let old : Body = c.body_at-body.result.now in
    let w = meant-body a i.held.items c.self.invariant lane name f x old c.body_at-body.ensures in
    let m : MeantAt a lane name = meant a k lane name f x.it x.at x.own x.stands x.current in
    let due_is : compact_due a.files a.journal a.snapshots f c.as_slice-files.result.now ≡ compact_refusal a m = ap (compact_due a.files a.journal a.snapshots f) (c.as_slice-files.ensures ∙ files-are a k lane name f x.it x.at x.own x.stands x.current old w) in
    let file : FileMeta = c.file_over.result in
    let e = c.file_over.ensures in
    let F : FileRegister = c.capture.new.self in
    let L : List FileMeta = c.push_reserved.new.self.items in
    let caught = c.in-Ok-capture.ensures.captured in
    let new : Books = record a { files = F; metas = L } in
    let h : IsMergePlanned a new f file = is-merge-planned a f x.current.serial (meant-it a i.held.items c.self.invariant lane name f x) (meant-open a i.held.items c.self.invariant lane name f x) old w file F L (ap (λ (z : FileMeta). z.from) e) (ap (λ (z : FileMeta). z.to) e ∙ c.reach-to.ensures ∙ ap reach_of c.as_slice-files.ensures) (ap (λ (z : FileMeta). z.bottom.last) e)
    (subst (λ l. 0 < length l) c.as_slice-files.ensures c.in-Ok-due_compaction.ensures.some)
    (is-captured a k f file F L c.in-Ok-due_compaction.ensures.idle c.in-Ok-capture.ensures.refused (ap (λ (z : FileMeta). z.number) e ∙ caught.0)
    (c.live_cuts-cuts.ensures file (ap (λ (z : FileMeta). z.from) e) (ap (λ (z : FileMeta). z.to) e) (ap (λ (z : FileMeta). z.bottom.cuts) e)) caught.1
    (c.push_reserved.ensures.items ∙ ap (λ (l : List FileMeta). l ++ file ∷ []) c.reserve.ensures.items)) in
    keeps-state a new i.held.items c.self.invariant (merge-law a new k f file h) refl

pub returns-clause-planned : goal.returns-clause-planned
returns-clause-planned c =
    let i = c.self.inside in
    let a : Books = books_of i in
    let k = c.self.invariant.sound in
    let f = c.in-Ok.family in
    let lane = c.args.lane in
    let name = c.args.name.now in
    let x = meant-so a c.args.self.now.books (ap (λ (z : StateSeen). z.books) c.self.view_is) lane name f c.in-Ok.ensures.found c.requires.current in
    let old : Body = c.body_at-body.result.now in
    let w = meant-body a i.held.items c.self.invariant lane name f x old c.body_at-body.ensures in
    let m : MeantAt a lane name = meant a k lane name f x.it x.at x.own x.stands x.current in
    let due_is : compact_due a.files a.journal a.snapshots f c.as_slice-files.result.now ≡ compact_refusal a m = ap (compact_due a.files a.journal a.snapshots f) (c.as_slice-files.ensures ∙ files-are a k lane name f x.it x.at x.own x.stands x.current old w) in
    let file : FileMeta = c.file_over.result in
    let e = c.file_over.ensures in
    let F : FileRegister = c.capture.new.self in
    let L : List FileMeta = c.push_reserved.new.self.items in
    let caught = c.in-Ok-capture.ensures.captured in
    let new : Books = record a { files = F; metas = L } in
    let h : IsMergePlanned a new f file = is-merge-planned a f x.current.serial (meant-it a i.held.items c.self.invariant lane name f x) (meant-open a i.held.items c.self.invariant lane name f x) old w file F L (ap (λ (z : FileMeta). z.from) e) (ap (λ (z : FileMeta). z.to) e ∙ c.reach-to.ensures ∙ ap reach_of c.as_slice-files.ensures) (ap (λ (z : FileMeta). z.bottom.last) e)
    (subst (λ l. 0 < length l) c.as_slice-files.ensures c.in-Ok-due_compaction.ensures.some)
    (is-captured a k f file F L c.in-Ok-due_compaction.ensures.idle c.in-Ok-capture.ensures.refused (ap (λ (z : FileMeta). z.number) e ∙ caught.0)
    (c.live_cuts-cuts.ensures file (ap (λ (z : FileMeta). z.from) e) (ap (λ (z : FileMeta). z.to) e) (ap (λ (z : FileMeta). z.bottom.cuts) e)) caught.1
    (c.push_reserved.ensures.items ∙ ap (λ (l : List FileMeta). l ++ file ∷ []) c.reserve.ensures.items)) in
    subst (λ (z : StateSeen). Planned {T = FileMeta} z.books lane name (compact_refusal z.books) (λ n g. IsMergePlanned z.books new n.family g) (Ok c.file_over-2.result)) c.self.view_is
    (inr (m, sym due_is ∙ c.in-Ok-due_compaction.ensures.refused, subst (IsMergePlanned a new f) (c.file_over.ensures ∙ sym c.file_over-2.ensures) h))

pub returns-clause-follows : goal.returns-clause-follows
returns-clause-follows c =
    let i = c.self.inside in
    let a : Books = books_of i in
    let k = c.self.invariant.sound in
    let f = c.in-Ok.family in
    let lane = c.args.lane in
    let name = c.args.name.now in
    let x = meant-so a c.args.self.now.books (ap (λ (z : StateSeen). z.books) c.self.view_is) lane name f c.in-Ok.ensures.found c.requires.current in
    let old : Body = c.body_at-body.result.now in
    let w = meant-body a i.held.items c.self.invariant lane name f x old c.body_at-body.ensures in
    let m : MeantAt a lane name = meant a k lane name f x.it x.at x.own x.stands x.current in
    let due_is : compact_due a.files a.journal a.snapshots f c.as_slice-files.result.now ≡ compact_refusal a m = ap (compact_due a.files a.journal a.snapshots f) (c.as_slice-files.ensures ∙ files-are a k lane name f x.it x.at x.own x.stands x.current old w) in
    let file : FileMeta = c.file_over.result in
    let e = c.file_over.ensures in
    let F : FileRegister = c.capture.new.self in
    let L : List FileMeta = c.push_reserved.new.self.items in
    let caught = c.in-Ok-capture.ensures.captured in
    let new : Books = record a { files = F; metas = L } in
    let h : IsMergePlanned a new f file = is-merge-planned a f x.current.serial (meant-it a i.held.items c.self.invariant lane name f x) (meant-open a i.held.items c.self.invariant lane name f x) old w file F L (ap (λ (z : FileMeta). z.from) e) (ap (λ (z : FileMeta). z.to) e ∙ c.reach-to.ensures ∙ ap reach_of c.as_slice-files.ensures) (ap (λ (z : FileMeta). z.bottom.last) e)
    (subst (λ l. 0 < length l) c.as_slice-files.ensures c.in-Ok-due_compaction.ensures.some)
    (is-captured a k f file F L c.in-Ok-due_compaction.ensures.idle c.in-Ok-capture.ensures.refused (ap (λ (z : FileMeta). z.number) e ∙ caught.0)
    (c.live_cuts-cuts.ensures file (ap (λ (z : FileMeta). z.from) e) (ap (λ (z : FileMeta). z.to) e) (ap (λ (z : FileMeta). z.bottom.cuts) e)) caught.1
    (c.push_reserved.ensures.items ∙ ap (λ (l : List FileMeta). l ++ file ∷ []) c.reserve.ensures.items)) in
    subst (λ (z : StateSeen). Follows z.books new) c.self.view_is (follows a new (merge-law a new k f file h))
