use Rattle.std.specs.Prelude.{IfOk}
use Rattle.std.proofs.Common.{◌<◌, ap, ◌∙◌, length, sym, subst, Ok, Err}
use Rattle.sv_model.specs.After.{After}
use Rattle.sv_model.specs.Books.{Books}
use Rattle.sv_model.specs.Steady.{Sound}
use Rattle.sv_model.proofs.AfterLaws.{after-itself}
use Rattle.sv_state.specs.declared.planning.Plan.TheVariants.{Add, Switch}
use Rattle.sv_state.specs.Follows.{Follows}
use Rattle.sv_store.specs.Seen.{StoreSeen}
use Rattle.sv_store.specs.Standing.{IsStill}
use Rattle.sv_store.specs.Writing.{Accepts, Switches, Writes}
use Rattle.sv_store.proofs.StandLaws.{follows-through}
use Rattle.sv_store.proofs.FrameLaws.{own-currents}
use Rattle.sv_store.proofs.WriteLaws.{clear, few-of, kept-books, kept-seen, may-append, may-append-next, plan-refused, written-add, written-switch}
use Rattle.sv_store.proofs.store.Store.write.Goals as goal

pub write_plan-requires-clause-current : goal.write_plan-requires-clause-current
write_plan-requires-clause-current c = own-currents c.self.inside.state.books c.self.inside.cells c.self.invariant.stands 0 c.args.name.now

pub returns-in-Err-clause-writes : goal.returns-in-Err-clause-writes
returns-in-Err-clause-writes c =
    let B = c.self.inside.state.books in
    let C = c.self.inside.cells in
    let e = c.in-Err.refusal in
    let new : StoreSeen = record { books = c.write_plan.new.self.books; cells = C } in
    subst (λ (z : StoreSeen). Writes z new c.args.name.now c.args.row (Err e)) c.self.view_is
    (plan-refused (record { books = B; cells = C }) new c.args.name.now c.args.row c.write_plan.result e c.in-Err.is c.write_plan.ensures.planned (λ i. record { books = c.write_plan.ensures.books i; cells = C }))

pub returns-in-Err-clause-follows : goal.returns-in-Err-clause-follows
returns-in-Err-clause-follows c =
    let B = c.self.inside.state.books in
    subst (λ (z : StoreSeen). Follows z.books c.write_plan.new.self.books) c.self.view_is
    (record {
      sound = subst Sound (sym c.write_plan.ensures.books) c.self.invariant.stands.sound;
      after = subst (After B) (sym c.write_plan.ensures.books) (after-itself B);
    })

pub append-requires : goal.append-requires
append-requires c =
    let B = c.self.inside.state.books in
    let p = clear B c.args.name.now c.write_plan.result (Add c.in-Add.family c.in-Add.cell) (c.in-Ok.is ∙ ap Ok c.in-Add.is) c.write_plan.ensures.planned in
    may-append c.write_plan.new.self B c.write_plan.ensures.books c.self.inside.cells c.self.invariant.stands c.args.name.now c.in-Add.family c.in-Add.cell p c.in-Ok.ensures.room

pub append-requires-in-Switch : goal.append-requires-in-Switch
append-requires-in-Switch c =
    let B = c.self.inside.state.books in
    let p = clear B c.args.name.now c.write_plan.result (Switch c.in-Switch.family c.in-Switch.cell) (c.in-Ok.is ∙ ap Ok c.in-Switch.is) c.write_plan.ensures.planned in
    may-append-next c.write_plan.new.self c.switch.new.state c.switch.new.cells c.in-Switch.family c.in-Ok-switch.cell c.switch.ensures.stands c.in-Ok-switch.ensures.empty c.in-Ok-switch.ensures.switched
    (subst (λ n. 0 < n) (sym c.switch.ensures.spare) c.in-Ok.ensures.room) (subst (λ (z : Books). length z.journal < 262144) (sym c.write_plan.ensures.books) (few-of B c.args.name.now _ p))

pub invariant_of-self-in-Switch : goal.invariant_of-self-in-Switch
invariant_of-self-in-Switch c = record {
  stands = c.append-in-Switch.ensures.stands;
  still = subst IsStill (sym c.append-in-Switch.ensures.files)
      (c.in-Ok-switch.ensures.still (subst (λ (z : Books). IsStill z.files) (sym c.write_plan.ensures.books) c.self.invariant.still));
}

pub returns-in-Add-clause-writes : goal.returns-in-Add-clause-writes
returns-in-Add-clause-writes c =
    let B = c.self.inside.state.books in
    let C = c.self.inside.cells in
    let r = c.append.result in
    let new : StoreSeen = record { books = c.append.new.state.books; cells = c.append.new.cells } in
    let p = clear B c.args.name.now c.write_plan.result (Add c.in-Add.family c.in-Add.cell) (c.in-Ok.is ∙ ap Ok c.in-Add.is) c.write_plan.ensures.planned in
    subst (λ (z : StoreSeen). Writes z new c.args.name.now c.args.row r) c.self.view_is
    (written-add (record { books = B; cells = C }) new c.args.name.now c.args.row r c.in-Add.family c.in-Add.cell p
    (subst (λ (z : Books). IfOk r (Accepts z new.books c.in-Add.family c.args.row)) c.write_plan.ensures.books c.append.ensures.accepted)
    c.append.ensures.refused (kept-seen r c.write_plan.new.self c.append.new.state B C c.append.new.cells c.write_plan.ensures.books c.append.ensures.kept))

pub returns-in-Ok-switch-clause-writes : goal.returns-in-Ok-switch-clause-writes
returns-in-Ok-switch-clause-writes c =
    let B = c.self.inside.state.books in
    let C = c.self.inside.cells in
    let k = c.append-in-Switch in
    let mid = c.switch.new.state.books in
    let new : StoreSeen = record { books = k.new.state.books; cells = k.new.cells } in
    let p = clear B c.args.name.now c.write_plan.result (Switch c.in-Switch.family c.in-Switch.cell) (c.in-Ok.is ∙ ap Ok c.in-Switch.is) c.write_plan.ensures.planned in
    subst (λ (z : StoreSeen). Writes z new c.args.name.now c.args.row k.result) c.self.view_is
    (written-switch (record { books = B; cells = C }) new c.args.name.now c.args.row k.result mid c.in-Switch.family c.in-Switch.cell p
    (subst (λ (z : Books). Switches c.in-Switch.family z mid) c.write_plan.ensures.books c.in-Ok-switch.ensures.switched)
    k.ensures.accepted k.ensures.refused (kept-books k.result c.switch.new.state k.new.state c.switch.new.cells k.new.cells k.ensures.kept))

pub returns-in-Ok-switch-clause-follows : goal.returns-in-Ok-switch-clause-follows
returns-in-Ok-switch-clause-follows c =
    let B = c.self.inside.state.books in
    let k = c.append-in-Switch in
    subst (λ (z : StoreSeen). Follows z.books k.new.state.books) c.self.view_is
    (follows-through B c.switch.new.state.books k.new.state.books (subst (λ (z : Books). Follows z c.switch.new.state.books) c.write_plan.ensures.books c.switch.ensures.follows) k.ensures.follows)
