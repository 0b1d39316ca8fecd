use Rattle.std.proofs.Common.{◌≡◌, ◌-◌, inr, length, sym, ap, ◌∙◌, subst}
use Rattle.std.specs.Prelude.{Ok, Err}
use Rattle.sv_model.specs.declared.refusals.Refusal.TheVariants.{OutOfMemory}
use Rattle.sv_model.specs.Books.{Books}
use Rattle.sv_laws.proofs.GrownRegisters.{get_within}
use Rattle.sv_objects.specs.declared.bodies.Body.{Body}
use Rattle.sv_state.specs.Planning.{IsPlanOf, MeantAt, Planned, active_rows, is_switch_due, write_due, write_refusal}
use Rattle.sv_state.specs.Seen.{StateSeen}
use Rattle.sv_state.specs.Views.{books_of}
use Rattle.sv_state.proofs.OptionSets.{options-read}
use Rattle.sv_state.proofs.Plannings.{base-below, due-exactly, meant, members-are, plan-is, rows-are}
use Rattle.sv_state.proofs.Finding.{meant-body, meant-kept, meant-so, meant-within}
use Rattle.sv_state.proofs.state.State.write_plan.Goals as goal

pub body_at-body-requires : goal.body_at-body-requires
body_at-body-requires c =
    let i = c.self.inside in
    let a : Books = books_of i in
    let k = c.self.invariant.sound in
    let f = c.in-Ok.family in
    let lane = c.args.lane in
    let name = c.args.name.now in
    let x = meant-so a c.args.self.now.books (ap (λ (z : StateSeen). z.books) c.self.view_is) lane name f c.in-Ok.ensures.found c.requires.current in
    meant-kept a i.held.items c.self.invariant lane name f x

pub written-requires : goal.written-requires
written-requires c =
    let i = c.self.inside in
    let a : Books = books_of i in
    let k = c.self.invariant.sound in
    let f = c.in-Ok.family in
    let lane = c.args.lane in
    let name = c.args.name.now in
    let x = meant-so a c.args.self.now.books (ap (λ (z : StateSeen). z.books) c.self.view_is) lane name f c.in-Ok.ensures.found c.requires.current in
    meant-within a i.held.items c.self.invariant lane name f x

pub overflow_sub-rows : goal.overflow_sub-rows
overflow_sub-rows c =
    let i = c.self.inside in
    let a : Books = books_of i in
    let k = c.self.invariant.sound in
    let f = c.in-Ok.family in
    let lane = c.args.lane in
    let name = c.args.name.now in
    let x = meant-so a c.args.self.now.books (ap (λ (z : StateSeen). z.books) c.self.view_is) lane name f c.in-Ok.ensures.found c.requires.current in
    let old : Body = c.body_at-body.result.now in
    let w = meant-body a i.held.items c.self.invariant lane name f x old c.body_at-body.ensures in
    base-below a k lane name f x.it x.at x.own x.stands x.current old w c.written.result c.written.ensures

pub options-options-requires : goal.options-options-requires
options-options-requires c =
    let i = c.self.inside in
    let a : Books = books_of i in
    let k = c.self.invariant.sound in
    let f = c.in-Ok.family in
    let lane = c.args.lane in
    let name = c.args.name.now in
    let x = meant-so a c.args.self.now.books (ap (λ (z : StateSeen). z.books) c.self.view_is) lane name f c.in-Ok.ensures.found c.requires.current in
    get_within i.families f x.it x.at

pub returns-in-Err-due_write-clause-planned : goal.returns-in-Err-due_write-clause-planned
returns-in-Err-due_write-clause-planned c =
    let i = c.self.inside in
    let a : Books = books_of i in
    let k = c.self.invariant.sound in
    let f = c.in-Ok.family in
    let lane = c.args.lane in
    let name = c.args.name.now in
    let x = meant-so a c.args.self.now.books (ap (λ (z : StateSeen). z.books) c.self.view_is) lane name f c.in-Ok.ensures.found c.requires.current in
    let old : Body = c.body_at-body.result.now in
    let w = meant-body a i.held.items c.self.invariant lane name f x old c.body_at-body.ensures in
    let m : MeantAt a lane name = meant a k lane name f x.it x.at x.own x.stands x.current in
    let rows = rows-are a k lane name f x.it x.at x.own x.stands x.current old w c.written.result c.written.ensures in
    let members : length c.as_slice-members.result.now ≡ length m.list.members = ap (λ l. length l) c.as_slice-members.ensures ∙ members-are a k lane name f x.it x.at x.own x.stands x.current old w in
    let opt : c.options-options.result ≡ x.it.options = options-read i.families f x.it c.options-options.result x.at c.options-options.ensures in
    let due_is : write_due a.journal a.supers a.memtables (c.written.result - old.descriptor.base) (length c.as_slice-members.result.now) c.options-options.result ≡ write_refusal a m = λ j. write_due a.journal a.supers a.memtables (rows j) (members j) (opt j) in
    subst (λ (z : StateSeen). Planned z.books lane name (write_refusal z.books) (IsPlanOf z.books) (Err c.in-Err-due_write.refusal)) c.self.view_is (inr (m, due-exactly (write_refusal a m) c.in-Err-due_write.refusal (sym due_is ∙ c.in-Err-due_write.ensures.refused), tt))

pub returns-in_default-clause-planned : goal.returns-in_default-clause-planned
returns-in_default-clause-planned c =
    let i = c.self.inside in
    let a : Books = books_of i in
    let k = c.self.invariant.sound in
    let f = c.in-Ok.family in
    let lane = c.args.lane in
    let name = c.args.name.now in
    let x = meant-so a c.args.self.now.books (ap (λ (z : StateSeen). z.books) c.self.view_is) lane name f c.in-Ok.ensures.found c.requires.current in
    let old : Body = c.body_at-body.result.now in
    let w = meant-body a i.held.items c.self.invariant lane name f x old c.body_at-body.ensures in
    let m : MeantAt a lane name = meant a k lane name f x.it x.at x.own x.stands x.current in
    let rows = rows-are a k lane name f x.it x.at x.own x.stands x.current old w c.written.result c.written.ensures in
    let members : length c.as_slice-members.result.now ≡ length m.list.members = ap (λ l. length l) c.as_slice-members.ensures ∙ members-are a k lane name f x.it x.at x.own x.stands x.current old w in
    let opt : c.options-options.result ≡ x.it.options = options-read i.families f x.it c.options-options.result x.at c.options-options.ensures in
    let due_is : write_due a.journal a.supers a.memtables (c.written.result - old.descriptor.base) (length c.as_slice-members.result.now) c.options-options.result ≡ write_refusal a m = λ j. write_due a.journal a.supers a.memtables (rows j) (members j) (opt j) in
    subst (λ (z : StateSeen). Planned z.books lane name (write_refusal z.books) (IsPlanOf z.books) (Err OutOfMemory)) c.self.view_is (inr (m, tt, tt))

pub returns-clause-planned : goal.returns-clause-planned
returns-clause-planned c =
    let i = c.self.inside in
    let a : Books = books_of i in
    let k = c.self.invariant.sound in
    let f = c.in-Ok.family in
    let lane = c.args.lane in
    let name = c.args.name.now in
    let x = meant-so a c.args.self.now.books (ap (λ (z : StateSeen). z.books) c.self.view_is) lane name f c.in-Ok.ensures.found c.requires.current in
    let old : Body = c.body_at-body.result.now in
    let w = meant-body a i.held.items c.self.invariant lane name f x old c.body_at-body.ensures in
    let m : MeantAt a lane name = meant a k lane name f x.it x.at x.own x.stands x.current in
    let rows = rows-are a k lane name f x.it x.at x.own x.stands x.current old w c.written.result c.written.ensures in
    let members : length c.as_slice-members.result.now ≡ length m.list.members = ap (λ l. length l) c.as_slice-members.ensures ∙ members-are a k lane name f x.it x.at x.own x.stands x.current old w in
    let opt : c.options-options.result ≡ x.it.options = options-read i.families f x.it c.options-options.result x.at c.options-options.ensures in
    let due_is : write_due a.journal a.supers a.memtables (c.written.result - old.descriptor.base) (length c.as_slice-members.result.now) c.options-options.result ≡ write_refusal a m = λ j. write_due a.journal a.supers a.memtables (rows j) (members j) (opt j) in
    let s = c.in-Ok-due_write.switches in
    let is : s ≡ is_switch_due (active_rows a m) x.it.options = c.in-Ok-due_write.ensures.switches ∙ (λ j. is_switch_due (rows j) (opt j)) in
    subst (λ (z : StateSeen). Planned z.books lane name (write_refusal z.books) (IsPlanOf z.books) (Ok c.plan_of.result)) c.self.view_is (inr (m, sym due_is ∙ c.in-Ok-due_write.ensures.refused, subst (IsPlanOf a m) (sym c.plan_of.ensures) (plan-is a k lane name f x.it x.at x.own x.stands x.current old w s is)))
