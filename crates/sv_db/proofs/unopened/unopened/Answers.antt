use Rattle.std.proofs.Common.{Some, refl, slice_get, subst, ◌∙◌, ◌≡◌}
use Rattle.std.specs.Prelude.{IsSomeAnd}
use Rattle.sv_family.specs.Refused.{find_refusal}
use Rattle.sv_model.specs.Families.{IsOwn}
use Rattle.sv_state.specs.Seen.{StateSeen}
use Rattle.sv_borrows.proofs.Locked.{gives-cleaned}
use Rattle.sv_db.proofs.Asking.{asked-clean, asked-is, none-own}
use Rattle.sv_db.proofs.unopened.unopened.Goals as goal

pub give_state-requires-clause-lock : goal.give_state-requires-clause-lock
give_state-requires-clause-lock g c = let t = c.take_state-held in
    let v = c.args.seat.now.seat.me.0 in let u = t.new.seat.seat.me.0 in
    gives-cleaned v c.requires.free.0 t.result.books u t.ensures.took t.ensures.told t.result.books u
    (asked-clean v c.requires.free.1 t.result.books u t.ensures.took t.ensures.told) u refl

pub unreachable-requires : goal.unreachable-requires
unreachable-requires g c = let t = c.take_state-held in
    none-own c.args._handles.now c.args.seat.now.seat.me.0 c.requires.handles.0 c.args.name.now c.requires.handles.1
    t.result.books t.ensures.told c.args.lane c.requires.lane.1 c.in-Ok.field-0
    (subst (λ (s : StateSeen). IsSomeAnd (slice_get s.books.families c.in-Ok.field-0) (IsOwn c.args.lane c.args.name.now))
    (c.deref.ensures ∙ c.held.view_is) c.in-Ok.ensures.found)

pub returns-clause-asks : goal.returns-clause-asks
returns-clause-asks g c = let t = c.take_state-held in record {
  found = t.result.books;
  due = subst (λ (s : StateSeen). find_refusal s.books.families c.args.lane c.args.name.now ≡ Some c.in-Err.refusal)
      (c.deref.ensures ∙ c.held.view_is) c.in-Err.ensures.refused;
  is = asked-is c.args.seat.now.seat.me.0 c.requires.free.0.locks t.result.books t.new.seat.seat.me.0 t.ensures.took
      c.give_state.new.seat.seat.me.0 c.give_state.ensures.gave;
}
