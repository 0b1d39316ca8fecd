use Rattle.std.proofs.Common.{Option, [], refl, subst, sym, ◌∙◌, ◌≡◌}
use Rattle.sv_model.specs.Cells.{Cell}
use Rattle.sv_puts.proofs.ActiveCells.{active-within, gave-same, may-give-same}
use Rattle.sv_puts.proofs.Appending.{active-of, appends, is-written, may-append-more, room-for}
use Rattle.sv_rule.specs.Fits.{cell_of}
use Rattle.sv_rule.specs.LockPlays.{MayWriteCell}
use Rattle.sv_state.specs.Follows.{Follows}
use Rattle.sv_state.specs.Seen.{StateSeen}
use Rattle.sv_puts.proofs.appends.append.Goals as goal

pub add_row-requires : goal.add_row-requires
add_row-requires g c =
    let s = c.args.held.now in
    let h = active-of s c.args.lane c.args.family c.args.number c.requires.can in
    let k = cell_of s.books.journal h.it.descriptor.active in (
      k,
      c.take_active-slot.ensures.found h,
      room-for s c.args.lane c.args.family c.args.number c.requires.can,
    )

pub give_same-requires-clause-within : goal.give_same-requires-clause-within
give_same-requires-clause-within g c =
    let s = c.args.held.now in
    active-within s.books c.requires.desk.own.lawful c.args.family c.args.number
    (active-of s c.args.lane c.args.family c.args.number c.requires.can)

pub give_same-requires-clause-lock : goal.give_same-requires-clause-lock
give_same-requires-clause-lock g c =
    let s = c.args.held.now in let t = c.take_active-slot in let u = t.new.seat.seat.me.0 in
    let h = active-of s c.args.lane c.args.family c.args.number c.requires.can in
    subst (λ (x : Option Cell). MayWriteCell u c.args.number s.books u.known.task [] x 0 0) (sym c.in-Err.ensures.kept)
    (may-give-same s.books c.args.seat.now.seat.me.0 c.requires.desk c.args.family c.args.number h t.result u
    t.ensures.took (t.ensures.found h))

pub returns-in-Err-clause-err : goal.returns-in-Err-clause-err
returns-in-Err-clause-err g c =
    let t = c.take_active-slot in (
      refl,
      gave-same c.args.held.now.books c.args.seat.now.seat.me.0 c.requires.desk c.args.number t.result
          t.new.seat.seat.me.0 t.ensures.took c.give_same.new.seat.seat.me.0 c.give_same.ensures.gave,
    )

pub give_written-requires-clause-within : goal.give_written-requires-clause-within
give_written-requires-clause-within g c =
    let s = c.args.held.now in
    active-within s.books c.requires.desk.own.lawful c.args.family c.args.number
    (active-of s c.args.lane c.args.family c.args.number c.requires.can)

pub give_written-requires-clause-lock : goal.give_written-requires-clause-lock
give_written-requires-clause-lock g c =
    let s = c.args.held.now in let t = c.take_active-slot in let v = c.args.seat.now.seat.me.0 in
    let d = c.write_done-count in let e = d.new.self.books in
    let same : c.deref_mut.result.now ≡ s = c.deref_mut.ensures.value ∙ c.held.view_is in
    let h = active-of s c.args.lane c.args.family c.args.number c.requires.can in
    may-append-more s.books e v c.requires.desk c.args.family c.args.number h c.args.row
    (subst (λ (z : StateSeen). Follows z.books e) same d.ensures.follows)
    (is-written s c.args.lane c.args.family c.args.number c.requires.can c.deref_mut.result.now same e c.args.row
    v.known.lane c.requires.lane d.ensures.written)
    t.result t.new.seat.seat.me.0 t.ensures.took d.result d.ensures.number c.add_row.new.slot
    (c.in_default.ensures.added (cell_of s.books.journal h.it.descriptor.active) (t.ensures.found h))

pub returns-clause-ok : goal.returns-clause-ok
returns-clause-ok g c =
    let s = c.args.held.now in let t = c.take_active-slot in let v = c.args.seat.now.seat.me.0 in
    let d = c.write_done-count in let e = d.new.self.books in
    let same : c.deref_mut.result.now ≡ s = c.deref_mut.ensures.value ∙ c.held.view_is in
    let h = active-of s c.args.lane c.args.family c.args.number c.requires.can in
    appends s.books e v c.requires.desk c.args.family c.args.number h c.args.row
    (subst (λ (z : StateSeen). Follows z.books e) same d.ensures.follows)
    (is-written s c.args.lane c.args.family c.args.number c.requires.can c.deref_mut.result.now same e c.args.row
    v.known.lane c.requires.lane d.ensures.written)
    t.result t.new.seat.seat.me.0 t.ensures.took d.result d.ensures.number c.give_written.new.seat.seat.me.0
    c.give_written.ensures.gave
