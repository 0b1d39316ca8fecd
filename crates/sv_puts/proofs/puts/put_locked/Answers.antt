use Rattle.std.proofs.Common.{Ok, [], ap, length, refl, subst, sym, ◌<◌, ◌∙◌, ◌∷◌}
use Rattle.std.specs.Prelude.{IfOk}
use Rattle.sv_borrows.specs.Desks.{GoesOn, IsAtDesk}
use Rattle.sv_cells.specs.Calls.{memtables_refusal}
use Rattle.sv_model.specs.Books.{Books}
use Rattle.sv_model.specs.Refusals.{IsDue, first_due}
use Rattle.sv_registry.specs.Calls.{make_refusal}
use Rattle.sv_puts.proofs.LockedPuts.{err-books, locked-add, locked-refused, locked-switch, locked-switch-refused, switched-desk}
use Rattle.sv_puts.proofs.PutLaws.{clear, few-of, may-append, may-append-next, may-switch-in, switches-journal}
use Rattle.sv_puts.specs.Rows.{Appends}
use Rattle.sv_puts.specs.Switching.{SwitchesTo}
use Rattle.sv_rule.specs.Views.{LaneView}
use Rattle.sv_state.specs.Currents.{OwnHaveCurrents}
use Rattle.sv_state.specs.Planning.{IsPlanOf, Planned, write_refusal}
use Rattle.sv_state.specs.Seen.{StateSeen}
use Rattle.sv_state.specs.declared.planning.Plan.TheVariants.{Add, Switch}
use Rattle.sv_puts.proofs.puts.put_locked.Goals as goal

pub write_plan-requires-clause-current : goal.write_plan-requires-clause-current
write_plan-requires-clause-current g c =
    subst (λ (z : Books). OwnHaveCurrents z c.args.lane c.args.name.now)
    (sym (ap (λ (z : StateSeen). z.books) (c.deref_mut.ensures.value ∙ c.held.view_is))) c.requires.current

pub returns-in-Err-clause-puts : goal.returns-in-Err-clause-puts
returns-in-Err-clause-puts g c =
    let a = c.args.held.now.books in
    let same = ap (λ (z : StateSeen). z.books) (c.deref_mut.ensures.value ∙ c.held.view_is) in
    locked-refused c.args.lane c.args.name.now c.args.row a c.write_plan.new.self.books c.args.seat.now.seat.me.0
    c.write_plan.result c.in-Err.refusal c.requires.desk.0 c.in-Err.is
    (subst (λ (z : Books). Planned z c.args.lane c.args.name.now (write_refusal z) (IsPlanOf z) c.write_plan.result) same
    c.write_plan.ensures.planned)
    (c.write_plan.ensures.books ∙ same)

pub add-requires-clause-desk : goal.add-requires-clause-desk
add-requires-clause-desk g c =
    let same = ap (λ (z : StateSeen). z.books) (c.deref_mut.ensures.value ∙ c.held.view_is) in
    subst (λ (z : Books). IsAtDesk z [] c.args.seat.now.seat.me.0) (sym (c.write_plan.ensures.books ∙ same)) c.requires.desk.0

pub add-requires-clause-can : goal.add-requires-clause-can
add-requires-clause-can g c =
    let a = c.args.held.now.books in let l = c.args.lane in let name = c.args.name.now in
    let same = ap (λ (z : StateSeen). z.books) (c.deref_mut.ensures.value ∙ c.held.view_is) in
    let planned = subst (λ (z : Books). Planned z l name (write_refusal z) (IsPlanOf z) c.write_plan.result) same
    c.write_plan.ensures.planned in
    let p = clear l a name c.write_plan.result (Add c.in-Add.family c.in-Add.cell) (c.in-Ok.is ∙ ap Ok c.in-Add.is) planned in
    may-append l c.write_plan.new.self a (c.write_plan.ensures.books ∙ same) c.requires.desk.0.own.lawful name c.in-Add.family
    c.in-Add.cell p c.requires.lane.0 c.in-Ok.ensures.room

pub switch-requires-clause-desk : goal.switch-requires-clause-desk
switch-requires-clause-desk g c =
    let same = ap (λ (z : StateSeen). z.books) (c.deref_mut.ensures.value ∙ c.held.view_is) in (
      subst (λ (z : Books). IsAtDesk z [] c.args.seat.now.seat.me.0) (sym (c.write_plan.ensures.books ∙ same))
          c.requires.desk.0,
      c.requires.desk.1,
    )

pub switch-requires-clause-can : goal.switch-requires-clause-can
switch-requires-clause-can g c =
    let a = c.args.held.now.books in let l = c.args.lane in let name = c.args.name.now in
    let same = ap (λ (z : StateSeen). z.books) (c.deref_mut.ensures.value ∙ c.held.view_is) in
    let planned = subst (λ (z : Books). Planned z l name (write_refusal z) (IsPlanOf z) c.write_plan.result) same
    c.write_plan.ensures.planned in
    let p = clear l a name c.write_plan.result (Switch c.in-Switch.family c.in-Switch.cell) (c.in-Ok.is ∙ ap Ok c.in-Switch.is) planned in
    may-switch-in l c.write_plan.new.self a (c.write_plan.ensures.books ∙ same) c.requires.desk.0.own.lawful name
    c.in-Switch.family c.in-Switch.cell p

pub returns-in-Err-switch-clause-puts : goal.returns-in-Err-switch-clause-puts
returns-in-Err-switch-clause-puts g c =
    let a = c.args.held.now.books in let l = c.args.lane in let name = c.args.name.now in
    let v = c.args.seat.now.seat.me.0 in let u = c.switch.new.seat.seat.me.0 in
    let same = ap (λ (z : StateSeen). z.books) (c.deref_mut.ensures.value ∙ c.held.view_is) in
    let planned = subst (λ (z : Books). Planned z l name (write_refusal z) (IsPlanOf z) c.write_plan.result) same
    c.write_plan.ensures.planned in
    let p = clear l a name c.write_plan.result (Switch c.in-Switch.family c.in-Switch.cell) (c.in-Ok.is ∙ ap Ok c.in-Switch.is) planned in
    let k = c.in-Err-switch.ensures in let now = c.write_plan.ensures.books ∙ same in
    locked-switch-refused l name c.args.row a c.switch.new.held.books v u c.in-Switch.family c.in-Switch.cell p
    c.in-Err-switch.refusal c.requires.desk.0
    (subst (λ (z : Books). IsDue (first_due (memtables_refusal z.memtables ∷ make_refusal z.supers ∷ [])) c.in-Err-switch.refusal) now k.refused)
    (ap (λ (z : StateSeen). z.books) k.err.0 ∙ now)
    (subst (λ (z : Books). GoesOn z [] v u) now k.err.1)

pub add-requires-in-Switch-clause-desk : goal.add-requires-in-Switch-clause-desk
add-requires-in-Switch-clause-desk g c =
    let a = c.args.held.now.books in let now = c.write_plan.ensures.books
    ∙ ap (λ (z : StateSeen). z.books) (c.deref_mut.ensures.value ∙ c.held.view_is) in
    let v = c.args.seat.now.seat.me.0 in let u = c.switch.new.seat.seat.me.0 in
    switched-desk a c.switch.new.held.books c.in-Switch.family c.in-Ok-switch.cell v u c.requires.desk.0
    (subst (λ (z : Books). SwitchesTo z c.switch.new.held.books c.in-Switch.family v u c.in-Ok-switch.cell) now c.in-Ok-switch.ensures.ok)

pub add-requires-in-Switch-clause-lane : goal.add-requires-in-Switch-clause-lane
add-requires-in-Switch-clause-lane g c =
    c.requires.lane.1 ∙ sym (ap (λ (z : LaneView). z.known.lane) c.in-Ok-switch.ensures.ok.installs.is)

pub add-requires-in-Switch-clause-can : goal.add-requires-in-Switch-clause-can
add-requires-in-Switch-clause-can g c =
    let a = c.args.held.now.books in let l = c.args.lane in let name = c.args.name.now in
    let same = ap (λ (z : StateSeen). z.books) (c.deref_mut.ensures.value ∙ c.held.view_is) in
    let planned = subst (λ (z : Books). Planned z l name (write_refusal z) (IsPlanOf z) c.write_plan.result) same
    c.write_plan.ensures.planned in
    let p = clear l a name c.write_plan.result (Switch c.in-Switch.family c.in-Switch.cell) (c.in-Ok.is ∙ ap Ok c.in-Switch.is) planned in
    let s = c.in-Ok-switch.ensures.ok in
    let b = c.switch.new.held.books in
    may-append-next l c.switch.new.held c.write_plan.new.self.books c.in-Switch.family c.in-Ok-switch.cell c.requires.lane.0
    (subst (λ n. 0 < n) (sym c.switch.ensures.spare) c.in-Ok.ensures.room) s.empty
    (switches-journal c.write_plan.new.self.books b c.in-Switch.family (s.made, s.switched, s.installs.cleans))
    (subst (λ (z : Books). length z.journal < 262144) (sym (c.write_plan.ensures.books ∙ same))
    (few-of l a name (Switch c.in-Switch.family c.in-Switch.cell) p))

pub returns-in-Add-clause-puts : goal.returns-in-Add-clause-puts
returns-in-Add-clause-puts g c =
    let a = c.args.held.now.books in let l = c.args.lane in let name = c.args.name.now in
    let v = c.args.seat.now.seat.me.0 in let w = c.add.new.seat.seat.me.0 in let b = c.add.new.held.books in
    let same = ap (λ (z : StateSeen). z.books) (c.deref_mut.ensures.value ∙ c.held.view_is) in
    let planned = subst (λ (z : Books). Planned z l name (write_refusal z) (IsPlanOf z) c.write_plan.result) same
    c.write_plan.ensures.planned in
    let p = clear l a name c.write_plan.result (Add c.in-Add.family c.in-Add.cell) (c.in-Ok.is ∙ ap Ok c.in-Add.is) planned in
    let now = c.write_plan.ensures.books ∙ same in
    locked-add l name c.args.row a b v w c.in-Add.family c.in-Add.cell p c.add.result (sym c.requires.lane.1) c.requires.desk.0
    (subst (λ (z : Books). IfOk c.add.result (λ n. Appends z b c.in-Add.family c.args.row n v w)) now c.add.ensures.ok)
    (err-books c.write_plan.new.self c.add.new.held a now v w c.add.result c.add.ensures.err) c.add.ensures.refused

pub returns-in-Ok-switch-clause-puts : goal.returns-in-Ok-switch-clause-puts
returns-in-Ok-switch-clause-puts g c =
    let a = c.args.held.now.books in let l = c.args.lane in let name = c.args.name.now in
    let k = c.add-in-Switch in
    let v = c.args.seat.now.seat.me.0 in let u = c.switch.new.seat.seat.me.0 in let w = k.new.seat.seat.me.0 in
    let m = c.switch.new.held.books in let b = k.new.held.books in
    let same = ap (λ (z : StateSeen). z.books) (c.deref_mut.ensures.value ∙ c.held.view_is) in
    let planned = subst (λ (z : Books). Planned z l name (write_refusal z) (IsPlanOf z) c.write_plan.result) same
    c.write_plan.ensures.planned in
    let p = clear l a name c.write_plan.result (Switch c.in-Switch.family c.in-Switch.cell) (c.in-Ok.is ∙ ap Ok c.in-Switch.is) planned in
    let now = c.write_plan.ensures.books ∙ same in
    let s = subst (λ (z : Books). SwitchesTo z m c.in-Switch.family v u c.in-Ok-switch.cell) now c.in-Ok-switch.ensures.ok in
    locked-switch l name c.args.row a m b v u w c.in-Switch.family c.in-Switch.cell c.in-Ok-switch.cell p k.result
    (sym c.requires.lane.1) s (switched-desk a m c.in-Switch.family c.in-Ok-switch.cell v u c.requires.desk.0 s) k.ensures.ok
    (err-books c.switch.new.held k.new.held m refl u w k.result k.ensures.err) k.ensures.refused
