use Rattle.std.proofs.Common.{ap, subst, ◌∙◌}
use Rattle.sv_borrows.specs.Lending.{Drops}
use Rattle.sv_borrows.specs.Parts.{body_of}
use Rattle.sv_borrows.proofs.Lending.{gives-kept, gives-swept}
use Rattle.sv_rule.specs.Views.{Bodied}
use Rattle.sv_slots.specs.Borrows.{IsBack}
use Rattle.sv_borrows.proofs.returns.give.Goals as goal

pub returns-in_default-clause-given : goal.returns-in_default-clause-given
returns-in_default-clause-given g c =
    let v = c.args.seat.now.seat.me.0 in let u = c.give_back.new.seat.seat.me.0 in let lent = c.args.lent in
    gives-kept lent.family lent.sv.pack v u
    (subst (λ b. IsBack body_of lent.family lent.sv b v u) c.in_default.is c.give_back.ensures.given)

pub returns-clause-given : goal.returns-clause-given
returns-clause-given g c =
    let v = c.args.seat.now.seat.me.0 in let u = c.give_back.new.seat.seat.me.0 in let lent = c.args.lent in
    let w = c.let_go.new.seat.seat.me.0 in
    let back = subst (λ b. IsBack body_of lent.family lent.sv b v u) c.in-Swept.is c.give_back.ensures.given in
    gives-swept lent.family lent.sv.pack v u w back.1
    (subst (λ p. Drops p u w) (ap (λ (z : Bodied). z.pack) back.0) c.let_go.ensures.drops)
