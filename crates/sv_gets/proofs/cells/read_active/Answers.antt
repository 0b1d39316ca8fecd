use Rattle.std.proofs.Common.{Some, ap, length, refl, subst, sym, ◌+◌, ◌<◌, ◌∙◌, ◌≡◌, ◌≤◌}
use Rattle.std.specs.Option.{option_copied}
use Rattle.sv_borrows.specs.Parts.{body_of}
use Rattle.sv_gets.proofs.ReadViews.{gives-slot, has-active, met-at, slot-reads}
use Rattle.sv_model.specs.Cells.{Cell}
use Rattle.sv_model.specs.declared.limits.TheConstants.{MAX_WRITES}
use Rattle.sv_objects.specs.declared.bodies.Body.{Body}
use Rattle.sv_reads.specs.Parts.{FindsAfter}
use Rattle.sv_rule.specs.LockPlays.{MayGiveCell, gave_cell}
use Rattle.sv_slots.specs.Seats.{bodied}
use Rattle.sv_gets.proofs.cells.read_active.Goals as goal

pub end_of-cut-requires : goal.end_of-cut-requires
end_of-cut-requires g c =
    let v = c.args.seat.now.seat.me.0 in let t = c.take_cell-slot in
    let x = bodied body_of c.args.sv.now in let f = x.body.descriptor.family in
    let a = has-active f x v c.requires.sv c.deref-body.result.now.cell (ap (λ (z : Body). z.cell) c.deref-body.ensures) t.result t.ensures.body in
    subst (λ (z : Body). (it : Cell) × (t.result ≡ Some it) × (z.descriptor.base + length it.rows ≤ MAX_WRITES))
    (sym c.deref-body.ensures) (a.it, a.is, a.most)

pub give_slot-requires-clause-picks : goal.give_slot-requires-clause-picks
give_slot-requires-clause-picks g c = (refl, refl)

pub give_slot-requires-clause-cell : goal.give_slot-requires-clause-cell
give_slot-requires-clause-cell g c =
    subst (λ (z : Body). z.cell < 64) (sym c.deref-body.ensures) c.requires.sv.shown.cell

pub give_slot-requires-clause-lock : goal.give_slot-requires-clause-lock
give_slot-requires-clause-lock g c =
    let v = c.args.seat.now.seat.me.0 in let t = c.take_cell-slot in
    let x = bodied body_of c.args.sv.now in let f = x.body.descriptor.family in
    let a = has-active f x v c.requires.sv c.deref-body.result.now.cell (ap (λ (z : Body). z.cell) c.deref-body.ensures) t.result t.ensures.body in
    let cut_is = c.end_of-cut.ensures a.it a.is ∙ ap (λ (z : Body). z.descriptor.base + length a.it.rows) c.deref-body.ensures in
    subst (λ (z : Body). MayGiveCell t.new.seat.seat.me.0 c.deref-body.result.now.cell t.result z.descriptor.family c.end_of-cut.result)
    (sym c.deref-body.ensures)
    (gives-slot v c.requires.free f x c.requires.sv c.deref-body.result.now.cell t.result a t.new.seat.seat.me.0 t.ensures.took
    c.end_of-cut.result cut_is)

pub returns-in_err-found-clause-reads : goal.returns-in_err-found-clause-reads
returns-in_err-found-clause-reads g c =
    let v = c.args.seat.now.seat.me.0 in let t = c.take_cell-slot in
    let x = bodied body_of c.args.sv.now in let f = x.body.descriptor.family in
    let a = has-active f x v c.requires.sv c.deref-body.result.now.cell (ap (λ (z : Body). z.cell) c.deref-body.ensures) t.result t.ensures.body in
    let cut_is = c.end_of-cut.ensures a.it a.is ∙ ap (λ (z : Body). z.descriptor.base + length a.it.rows) c.deref-body.ensures in
    slot-reads v c.requires.free f x c.requires.sv c.deref-body.result.now.cell t.result a t.new.seat.seat.me.0 t.ensures.took
    c.end_of-cut.result cut_is
    c.give_slot.new.seat.seat.me.0
    (c.give_slot.ensures.gave ∙ ap (λ (z : Body). gave_cell z.descriptor.family c.end_of-cut.result t.new.seat.seat.me.0) c.deref-body.ensures)

pub returns-clause-reads : goal.returns-clause-reads
returns-clause-reads g c =
    let v = c.args.seat.now.seat.me.0 in let t = c.take_cell-slot in
    let x = bodied body_of c.args.sv.now in let f = x.body.descriptor.family in
    let a = has-active f x v c.requires.sv c.deref-body.result.now.cell (ap (λ (z : Body). z.cell) c.deref-body.ensures) t.result t.ensures.body in
    let cut_is = c.end_of-cut.ensures a.it a.is ∙ ap (λ (z : Body). z.descriptor.base + length a.it.rows) c.deref-body.ensures in
    slot-reads v c.requires.free f x c.requires.sv c.deref-body.result.now.cell t.result a t.new.seat.seat.me.0 t.ensures.took
    c.end_of-cut.result cut_is
    c.give_slot.new.seat.seat.me.0
    (c.give_slot.ensures.gave ∙ ap (λ (z : Body). gave_cell z.descriptor.family c.end_of-cut.result t.new.seat.seat.me.0) c.deref-body.ensures)

pub returns-clause-met : goal.returns-clause-met
returns-clause-met g c =
    let v = c.args.seat.now.seat.me.0 in let t = c.take_cell-slot in
    let x = bodied body_of c.args.sv.now in let f = x.body.descriptor.family in
    let a = has-active f x v c.requires.sv c.deref-body.result.now.cell (ap (λ (z : Body). z.cell) c.deref-body.ensures) t.result t.ensures.body in
    let cut_is = c.end_of-cut.ensures a.it a.is ∙ ap (λ (z : Body). z.descriptor.base + length a.it.rows) c.deref-body.ensures in
    met-at v c.requires.free f x c.requires.sv c.deref-body.result.now.cell t.result a t.new.seat.seat.me.0 t.ensures.took
    c.end_of-cut.result cut_is
    c.give_slot.new.seat.seat.me.0
    (c.give_slot.ensures.gave ∙ ap (λ (z : Body). gave_cell z.descriptor.family c.end_of-cut.result t.new.seat.seat.me.0) c.deref-body.ensures)
    c.args.key.now c.in_ok-found.field-0 (option_copied c.find_row.result) c.in_ok-found.ensures
    (subst (λ (z : Body). FindsAfter z.descriptor.base a.it.rows c.args.key.now c.end_of-cut.result (option_copied c.find_row.result))
    c.deref-body.ensures (c.find_row.ensures a.it a.is))
