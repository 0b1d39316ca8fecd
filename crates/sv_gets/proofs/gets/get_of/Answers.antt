use Rattle.std.proofs.Common.{ap, subst, sym, ◌/◌, ◌<◌, ◌∙◌}
use Rattle.sv_borrows.specs.Lending.{GivesBack}
use Rattle.sv_borrows.specs.Parts.{body_of}
use Rattle.sv_gets.specs.Reading.{FindsIn, MayRead}
use Rattle.sv_gets.proofs.Getting.{gets, goes, may-read, still-lent, stops}
use Rattle.sv_model.specs.declared.sv_refs.SvRef.{SvRef}
use Rattle.sv_objects.specs.declared.bodies.Body.{Body}
use Rattle.sv_slots.specs.Seats.{Lends, bodied}
use Rattle.sv_gets.proofs.gets.get_of.Goals as goal

pub read-found-requires-clause-sv : goal.read-found-requires-clause-sv
read-found-requires-clause-sv g c =
    let ok = c.in_ok-lent.ensures.ok in
    subst (λ (z : SvRef Body). MayRead z.body.value.descriptor.family (bodied body_of z) c.lend.new.seat.seat.me.0)
    (sym c.sv-2.ensures)
    (may-read c.args.family c.requires.lend.0 (bodied body_of c.in_ok-lent.lent.sv) c.args.seat.now.seat.me.0
    c.lend.new.seat.seat.me.0 ok.1)

pub give-requires-clause-lent : goal.give-requires-clause-lent
give-requires-clause-lent g c =
    let ok = c.in_ok-lent.ensures.ok in let sv = c.in_ok-lent.lent.sv in let f = c.args.family in
    let v = c.args.seat.now.seat.me.0 in let w₁ = c.lend.new.seat.seat.me.0 in let w₂ = c.read-found.new.seat.seat.me.0 in
    let x = bodied body_of sv in (
      subst (λ n. n < 16) (sym ok.0) c.requires.lend.0,
      ok.1.shown.pack,
      subst (λ g. Lends w₂ g sv.pack) (sym ok.0)
          (still-lent f x v w₁ w₂ ok.1 c.read-found.ensures.reads),
    )

pub returns-in-Ok-clause-goes : goal.returns-in-Ok-clause-goes
returns-in-Ok-clause-goes g c =
    let ok = c.in_ok-lent.ensures.ok in let sv = c.in_ok-lent.lent.sv in let f = c.args.family in
    let v = c.args.seat.now.seat.me.0 in let w₁ = c.lend.new.seat.seat.me.0 in let w₂ = c.read-found.new.seat.seat.me.0 in
    let x = bodied body_of sv in
    let w = c.give.new.seat.seat.me.0 in
    let given = subst (λ g. GivesBack g sv.pack w₂ w) ok.0 c.give.ensures.given in
    goes f x v w₁ w₂ w ok.1 c.read-found.ensures.reads given

pub returns-in-Ok-clause-got : goal.returns-in-Ok-clause-got
returns-in-Ok-clause-got g c =
    let ok = c.in_ok-lent.ensures.ok in let sv = c.in_ok-lent.lent.sv in let f = c.args.family in
    let v = c.args.seat.now.seat.me.0 in let w₁ = c.lend.new.seat.seat.me.0 in let w₂ = c.read-found.new.seat.seat.me.0 in
    let x = bodied body_of sv in
    let w = c.give.new.seat.seat.me.0 in
    let given = subst (λ g. GivesBack g sv.pack w₂ w) ok.0 c.give.ensures.given in
    let found = c.in-Ok.field-0 in
    let finds = subst (λ (z : SvRef Body). FindsIn z.body.value.descriptor.family (bodied body_of z) c.args.key.now found.value found.cut w₁ w₂)
    c.sv-2.ensures c.in-Ok.ensures.found in
    gets f x v w₁ w₂ w ok.1 c.read-found.ensures.reads given c.args.key.now found.value found.cut c.serial_of-sv.result
    (c.serial_of-sv.ensures ∙ ap (λ (z : SvRef Body). z.pack / 256) c.sv.ensures)
    (subst (λ g. FindsIn g x c.args.key.now found.value found.cut w₁ w₂) ok.1.shown.family finds)

pub returns-in-Err-clause-goes : goal.returns-in-Err-clause-goes
returns-in-Err-clause-goes g c =
    let ok = c.in_ok-lent.ensures.ok in let sv = c.in_ok-lent.lent.sv in let f = c.args.family in
    let v = c.args.seat.now.seat.me.0 in let w₁ = c.lend.new.seat.seat.me.0 in let w₂ = c.read-found.new.seat.seat.me.0 in
    let x = bodied body_of sv in
    let w = c.give.new.seat.seat.me.0 in
    let given = subst (λ g. GivesBack g sv.pack w₂ w) ok.0 c.give.ensures.given in
    goes f x v w₁ w₂ w ok.1 c.read-found.ensures.reads given

pub returns-in-Err-clause-stops : goal.returns-in-Err-clause-stops
returns-in-Err-clause-stops g c =
    let ok = c.in_ok-lent.ensures.ok in let sv = c.in_ok-lent.lent.sv in let f = c.args.family in
    let v = c.args.seat.now.seat.me.0 in let w₁ = c.lend.new.seat.seat.me.0 in let w₂ = c.read-found.new.seat.seat.me.0 in
    let x = bodied body_of sv in
    let w = c.give.new.seat.seat.me.0 in
    let given = subst (λ g. GivesBack g sv.pack w₂ w) ok.0 c.give.ensures.given in
    stops f x v w₁ w₂ w ok.1 c.read-found.ensures.reads given c.in-Err.refusal c.in-Err.ensures.stops
