use Rattle.std.proofs.Common.{subst}
use Rattle.sv_borrows.specs.Parts.{body_of}
use Rattle.sv_borrows.proofs.Lending.{by-hit, by-lent, by-none, is-missed, miss-lends, stale-missed}
use Rattle.sv_borrows.proofs.Locked.{if-err, if-ok}
use Rattle.sv_slots.specs.Borrows.{IsMiss}
use Rattle.sv_slots.specs.Seats.{bodied}
use Rattle.sv_borrows.proofs.lends.lend.Goals as goal

pub lend_locked-requires-clause-lend : goal.lend_locked-requires-clause-lend
lend_locked-requires-clause-lend g c =
    let v = c.args.seat.now.seat.me.0 in let u = c.try_borrow.new.seat.seat.me.0 in let f = c.args.family in
    let m = subst (λ m. IsMiss body_of f m v u) c.in-Err-Empty.field-0-is c.in-Err-Empty.ensures.err in
    miss-lends f v u (is-missed f v m.0 u m.2) c.requires.lend

pub lend_locked-requires-in-Err-Stale-clause-lend : goal.lend_locked-requires-in-Err-Stale-clause-lend
lend_locked-requires-in-Err-Stale-clause-lend g c =
    let v = c.args.seat.now.seat.me.0 in let t = c.try_borrow.new.seat.seat.me.0 in let f = c.args.family in
    let u = c.drop_ref-left.new.seat.seat.me.0 in
    let m = subst (λ m. IsMiss body_of f m v t) c.in-Err-Stale.field-0-is c.in-Err-Stale.ensures.err in
    miss-lends f v u (stale-missed f v c.requires.free.0.locks (bodied body_of c.in-Err-Stale.cached) c.in-Err-Stale.field-0-1 t
    m.view c.drop_ref-left.result u c.drop_ref-left.ensures.view) c.requires.lend

pub returns-in-Ok-clause-ok : goal.returns-in-Ok-clause-ok
returns-in-Ok-clause-ok g c =
    let h = c.in-Ok.ensures.ok in (
      h.0,
      by-hit c.args.family c.args.seat.now.seat.me.0 (bodied body_of c.in-Ok.lent.sv) c.try_borrow.new.seat.seat.me.0
          h.1.shown h.1.view,
    )

pub returns-in-Err-Empty-clause-ok : goal.returns-in-Err-Empty-clause-ok
returns-in-Err-Empty-clause-ok g c =
    let v = c.args.seat.now.seat.me.0 in let u = c.try_borrow.new.seat.seat.me.0 in let f = c.args.family in
    let m = subst (λ m. IsMiss body_of f m v u) c.in-Err-Empty.field-0-is c.in-Err-Empty.ensures.err in
    if-ok _ _ c.lend_locked.result
    (λ l h. (
      h.0,
      by-lent f v c.requires.free.0.locks c.requires.free.1 u (is-missed f v m.0 u m.2) (bodied body_of l.sv)
          c.lend_locked.new.seat.seat.me.0 h.1 h.2,
    ))
    c.lend_locked.ensures.ok

pub returns-in-Err-Empty-clause-err : goal.returns-in-Err-Empty-clause-err
returns-in-Err-Empty-clause-err g c =
    let v = c.args.seat.now.seat.me.0 in let u = c.try_borrow.new.seat.seat.me.0 in let f = c.args.family in
    let m = subst (λ m. IsMiss body_of f m v u) c.in-Err-Empty.field-0-is c.in-Err-Empty.ensures.err in
    if-err _ _ c.lend_locked.result
    (λ e h. by-none f v c.requires.free.0.locks c.requires.free.1 u (is-missed f v m.0 u m.2)
    c.lend_locked.new.seat.seat.me.0 h)
    c.lend_locked.ensures.err

pub returns-in-Err-Stale-clause-ok : goal.returns-in-Err-Stale-clause-ok
returns-in-Err-Stale-clause-ok g c =
    let v = c.args.seat.now.seat.me.0 in let t = c.try_borrow.new.seat.seat.me.0 in let f = c.args.family in
    let u = c.drop_ref-left.new.seat.seat.me.0 in
    let m = subst (λ m. IsMiss body_of f m v t) c.in-Err-Stale.field-0-is c.in-Err-Stale.ensures.err in
    let w = c.lend_locked-in-Err-Stale in
    let missed = stale-missed f v c.requires.free.0.locks (bodied body_of c.in-Err-Stale.cached) c.in-Err-Stale.field-0-1 t
    m.view c.drop_ref-left.result u c.drop_ref-left.ensures.view in
    if-ok _ _ w.result
    (λ l h. (
      h.0,
      by-lent f v c.requires.free.0.locks c.requires.free.1 u missed (bodied body_of l.sv) w.new.seat.seat.me.0
          h.1 h.2,
    ))
    w.ensures.ok

pub returns-in-Err-Stale-clause-err : goal.returns-in-Err-Stale-clause-err
returns-in-Err-Stale-clause-err g c =
    let v = c.args.seat.now.seat.me.0 in let t = c.try_borrow.new.seat.seat.me.0 in let f = c.args.family in
    let u = c.drop_ref-left.new.seat.seat.me.0 in
    let m = subst (λ m. IsMiss body_of f m v t) c.in-Err-Stale.field-0-is c.in-Err-Stale.ensures.err in
    let w = c.lend_locked-in-Err-Stale in
    let missed = stale-missed f v c.requires.free.0.locks (bodied body_of c.in-Err-Stale.cached) c.in-Err-Stale.field-0-1 t
    m.view c.drop_ref-left.result u c.drop_ref-left.ensures.view in
    if-err _ _ w.result
    (λ e h. by-none f v c.requires.free.0.locks c.requires.free.1 u missed w.new.seat.seat.me.0 h)
    w.ensures.err
