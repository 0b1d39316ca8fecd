use Rattle.std.proofs.Common.{subst, sym, ◌<◌, ◌≤◌}
use Rattle.sv_borrows.specs.Lending.{GivesBack}
use Rattle.sv_borrows.specs.Parts.{body_of}
use Rattle.sv_gets.proofs.Pinning.{Added, added-free, added-knows, added-lends, added-none, added-pins, can-add}
use Rattle.sv_model.specs.declared.sv_refs.SvRef.{SvRef}
use Rattle.sv_objects.specs.declared.bodies.Body.{Body}
use Rattle.sv_rule.specs.ReferencePlays.{CanAdd}
use Rattle.sv_slots.specs.Seats.{Lends, bodied}
use Rattle.sv_gets.proofs.pins.pin_of.Goals as goal

pub add_ref-pinned-requires-clause-held : goal.add_ref-pinned-requires-clause-held
add_ref-pinned-requires-clause-held g c =
    subst (λ (z : SvRef Body). (256 ≤ z.pack) × CanAdd (bodied body_of z) c.lend.new.seat.seat.me.0) (sym c.sv.ensures)
    (can-add c.args.family (bodied body_of c.in_ok-lent.lent.sv) c.args.seat.now.seat.me.0 c.lend.new.seat.seat.me.0
    c.in_ok-lent.ensures.ok.1)

pub give-requires-clause-free : goal.give-requires-clause-free
give-requires-clause-free g c =
    let x = bodied body_of c.in_ok-lent.lent.sv in let a = c.add_ref-pinned in
    added-free c.args.family x c.args.seat.now.seat.me.0 c.lend.new.seat.seat.me.0 c.in_ok-lent.ensures.ok.1
    a.result a.new.seat.seat.me.0 (subst (λ (z : SvRef Body). Added (bodied body_of z) a.result c.lend.new.seat.seat.me.0 a.new.seat.seat.me.0)
    c.sv.ensures (a.ensures.ok, a.ensures.err)) c.requires.free.0 c.requires.room c.requires.free.1

pub give-requires-clause-lent : goal.give-requires-clause-lent
give-requires-clause-lent g c =
    let x = bodied body_of c.in_ok-lent.lent.sv in let a = c.add_ref-pinned in let ok = c.in_ok-lent.ensures.ok in (
      subst (λ n. n < 16) (sym ok.0) c.requires.lend.0,
      ok.1.shown.pack,
      subst (λ f. Lends a.new.seat.seat.me.0 f x.pack) (sym ok.0)
          (added-lends c.args.family x c.args.seat.now.seat.me.0 c.lend.new.seat.seat.me.0 ok.1
          a.result a.new.seat.seat.me.0 (subst (λ (z : SvRef Body). Added (bodied body_of z) a.result c.lend.new.seat.seat.me.0 a.new.seat.seat.me.0)
          c.sv.ensures (a.ensures.ok, a.ensures.err))),
    )

pub give-requires-clause-known : goal.give-requires-clause-known
give-requires-clause-known g c =
    let x = bodied body_of c.in_ok-lent.lent.sv in let a = c.add_ref-pinned in
    added-knows c.args.family x c.args.seat.now.seat.me.0 c.lend.new.seat.seat.me.0 c.in_ok-lent.ensures.ok.1
    a.result a.new.seat.seat.me.0 (subst (λ (z : SvRef Body). Added (bodied body_of z) a.result c.lend.new.seat.seat.me.0 a.new.seat.seat.me.0)
    c.sv.ensures (a.ensures.ok, a.ensures.err))

pub returns-clause-pins : goal.returns-clause-pins
returns-clause-pins g c =
    let x = bodied body_of c.in_ok-lent.lent.sv in let a = c.add_ref-pinned in let ok = c.in_ok-lent.ensures.ok in
    let u = a.new.seat.seat.me.0 in let w = c.give.new.seat.seat.me.0 in
    added-pins c.args.family x c.args.seat.now.seat.me.0 c.lend.new.seat.seat.me.0 ok.1
    a.result u w (subst (λ (z : SvRef Body). Added (bodied body_of z) a.result c.lend.new.seat.seat.me.0 u)
    c.sv.ensures (a.ensures.ok, a.ensures.err)) (subst (λ f. GivesBack f x.pack u w) ok.0 c.give.ensures.given)

pub returns-clause-none : goal.returns-clause-none
returns-clause-none g c =
    let x = bodied body_of c.in_ok-lent.lent.sv in let a = c.add_ref-pinned in let ok = c.in_ok-lent.ensures.ok in
    let u = a.new.seat.seat.me.0 in let w = c.give.new.seat.seat.me.0 in
    added-none c.args.family x c.args.seat.now.seat.me.0 c.lend.new.seat.seat.me.0 ok.1
    a.result u w (subst (λ (z : SvRef Body). Added (bodied body_of z) a.result c.lend.new.seat.seat.me.0 u)
    c.sv.ensures (a.ensures.ok, a.ensures.err)) (subst (λ f. GivesBack f x.pack u w) ok.0 c.give.ensures.given)
