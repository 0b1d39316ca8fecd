use Rattle.std.proofs.Common.{arith, sym, ◌∙◌}
use Rattle.sv_db.proofs.Naming.{place-none, place-own}
use Rattle.sv_db.proofs.handles.family_of.Goals as goal

pub overflow_cast-result : goal.overflow_cast-result
overflow_cast-result c = omega (
  arith,
  (place-own c.args.name.now c.args.handles.now c.requires c.in-Some.place (sym c.place_of.ensures ∙ c.in-Some.is)).0,
)

pub returns-in-Some-clause-own : goal.returns-in-Some-clause-own
returns-in-Some-clause-own c =
    place-own c.args.name.now c.args.handles.now c.requires c.in-Some.place (sym c.place_of.ensures ∙ c.in-Some.is)

pub returns-in-None-clause-none : goal.returns-in-None-clause-none
returns-in-None-clause-none c = λ e.
    place-none c.args.name.now c.args.handles.now (sym c.place_of.ensures ∙ c.in-None.is)
