use Rattle.std.proofs.Common.{◌≡◌, ◌-◌, inr, length, refl, sym, ap, ◌∙◌, subst}
use Rattle.std.specs.Prelude.{Ok, Err, nat_lt}
use Rattle.sv_model.specs.Books.{Books}
use Rattle.sv_objects.specs.declared.bodies.Body.{Body}
use Rattle.sv_state.specs.Planning.{IsCellIf, IsFlushPlan, MeantAt, Planned, active_rows, flush_due, flush_refusal}
use Rattle.sv_state.specs.Seen.{StateSeen}
use Rattle.sv_state.specs.Views.{books_of}
use Rattle.sv_family.specs.Refused.{change_refusal}
use Rattle.sv_state.proofs.NoMemory.{change-wants-none, flush-wants-none, never-told}
use Rattle.sv_state.proofs.Plannings.{base-below, cell-if, due-exactly, meant, members-are, rows-are}
use Rattle.sv_state.proofs.Finding.{meant-body, meant-kept, meant-so, meant-within}
use Rattle.sv_state.proofs.state.State.flush_plan.Goals as goal

pub body_at-body-requires : goal.body_at-body-requires
body_at-body-requires c =
    let i = c.self.inside in
    let a : Books = books_of i in
    let k = c.self.invariant.sound in
    let f = c.in-Ok.family in
    let lane = c.args.lane in
    let name = c.args.name.now in
    let x = meant-so a c.args.self.now.books (ap (λ (z : StateSeen). z.books) c.self.view_is) lane name f c.in-Ok.ensures.found c.requires.current in
    meant-kept a i.held.items c.self.invariant lane name f x

pub written-requires : goal.written-requires
written-requires c =
    let i = c.self.inside in
    let a : Books = books_of i in
    let k = c.self.invariant.sound in
    let f = c.in-Ok.family in
    let lane = c.args.lane in
    let name = c.args.name.now in
    let x = meant-so a c.args.self.now.books (ap (λ (z : StateSeen). z.books) c.self.view_is) lane name f c.in-Ok.ensures.found c.requires.current in
    meant-within a i.held.items c.self.invariant lane name f x

pub overflow_sub-rows : goal.overflow_sub-rows
overflow_sub-rows c =
    let i = c.self.inside in
    let a : Books = books_of i in
    let k = c.self.invariant.sound in
    let f = c.in-Ok.family in
    let lane = c.args.lane in
    let name = c.args.name.now in
    let x = meant-so a c.args.self.now.books (ap (λ (z : StateSeen). z.books) c.self.view_is) lane name f c.in-Ok.ensures.found c.requires.current in
    let old : Body = c.body_at-body.result.now in
    let w = meant-body a i.held.items c.self.invariant lane name f x old c.body_at-body.ensures in
    base-below a k lane name f x.it x.at x.own x.stands x.current old w c.written.result c.written.ensures

pub due_flush-requires : goal.due_flush-requires
due_flush-requires c =
    let i = c.self.inside in
    let a : Books = books_of i in
    let k = c.self.invariant.sound in
    let f = c.in-Ok.family in
    let lane = c.args.lane in
    let name = c.args.name.now in
    let x = meant-so a c.args.self.now.books (ap (λ (z : StateSeen). z.books) c.self.view_is) lane name f c.in-Ok.ensures.found c.requires.current in
    meant-within a i.held.items c.self.invariant lane name f x

pub returns-in-Err-due_flush-clause-planned : goal.returns-in-Err-due_flush-clause-planned
returns-in-Err-due_flush-clause-planned c =
    let i = c.self.inside in
    let a : Books = books_of i in
    let k = c.self.invariant.sound in
    let f = c.in-Ok.family in
    let lane = c.args.lane in
    let name = c.args.name.now in
    let x = meant-so a c.args.self.now.books (ap (λ (z : StateSeen). z.books) c.self.view_is) lane name f c.in-Ok.ensures.found c.requires.current in
    let old : Body = c.body_at-body.result.now in
    let w = meant-body a i.held.items c.self.invariant lane name f x old c.body_at-body.ensures in
    let m : MeantAt a lane name = meant a k lane name f x.it x.at x.own x.stands x.current in
    let rows = rows-are a k lane name f x.it x.at x.own x.stands x.current old w c.written.result c.written.ensures in
    let members : length c.as_slice-members.result.now ≡ length m.list.members = ap (λ l. length l) c.as_slice-members.ensures ∙ members-are a k lane name f x.it x.at x.own x.stands x.current old w in
    let due_is : flush_due a.files f a.supers a.memtables (c.written.result - old.descriptor.base) (length c.as_slice-members.result.now) ≡ flush_refusal a m = λ j. flush_due a.files f a.supers a.memtables (rows j) (members j) in
    subst (λ (z : StateSeen). Planned z.books lane name (flush_refusal z.books) (IsFlushPlan z.books) (Err c.in-Err-due_flush.refusal)) c.self.view_is (inr (m, due-exactly (flush_refusal a m) c.in-Err-due_flush.refusal (sym due_is ∙ c.in-Err-due_flush.ensures.refused), tt))

pub returns-clause-planned : goal.returns-clause-planned
returns-clause-planned c =
    let i = c.self.inside in
    let a : Books = books_of i in
    let k = c.self.invariant.sound in
    let f = c.in-Ok.family in
    let lane = c.args.lane in
    let name = c.args.name.now in
    let x = meant-so a c.args.self.now.books (ap (λ (z : StateSeen). z.books) c.self.view_is) lane name f c.in-Ok.ensures.found c.requires.current in
    let old : Body = c.body_at-body.result.now in
    let w = meant-body a i.held.items c.self.invariant lane name f x old c.body_at-body.ensures in
    let m : MeantAt a lane name = meant a k lane name f x.it x.at x.own x.stands x.current in
    let rows = rows-are a k lane name f x.it x.at x.own x.stands x.current old w c.written.result c.written.ensures in
    let members : length c.as_slice-members.result.now ≡ length m.list.members = ap (λ l. length l) c.as_slice-members.ensures ∙ members-are a k lane name f x.it x.at x.own x.stands x.current old w in
    let due_is : flush_due a.files f a.supers a.memtables (c.written.result - old.descriptor.base) (length c.as_slice-members.result.now) ≡ flush_refusal a m = λ j. flush_due a.files f a.supers a.memtables (rows j) (members j) in
    let s = c.in-Ok-due_flush.switches in
    let is : s ≡ nat_lt 0 (active_rows a m) = c.in-Ok-due_flush.ensures.switches ∙ ap (nat_lt 0) rows in
    subst (λ (z : StateSeen). Planned z.books lane name (flush_refusal z.books) (IsFlushPlan z.books) (Ok (record { family = f; cell = c.cell_if-cell.result }))) c.self.view_is (inr (m, sym due_is ∙ c.in-Ok-due_flush.ensures.refused, record { family_is = refl; cell = subst (IsCellIf a.memtables m.it.descriptor.active (nat_lt 0 (active_rows a m))) (sym c.cell_if-cell.ensures) (cell-if a k lane name f x.it x.at x.own x.stands x.current old w s is) }))

pub returns-in-Err-clause-memory : goal.returns-in-Err-clause-memory
returns-in-Err-clause-memory c =
    let families = c.self.inside.families in
    let e = c.in-Err.refusal in
    never-told (Err e) (change_refusal families c.args.lane c.args.name.now) e (change-wants-none families c.args.lane c.args.name.now) c.in-Err.ensures.refused refl

pub returns-in-Err-due_flush-clause-memory : goal.returns-in-Err-due_flush-clause-memory
returns-in-Err-due_flush-clause-memory c =
    let a : Books = books_of c.self.inside in
    let f = c.in-Ok.family in
    let e = c.in-Err-due_flush.refusal in
    let rows = c.written.result - c.body_at-body.result.now.descriptor.base in
    let members = length c.as_slice-members.result.now in
    never-told (Err e) (flush_due a.files f a.supers a.memtables rows members) e (flush-wants-none a.files f a.supers a.memtables rows members) c.in-Err-due_flush.ensures.refused refl
