use Rattle.std.proofs.Common.{◌<◌, Ok, length, refl, sym, subst}
use Rattle.sv_model.specs.Books.{Books}
use Rattle.sv_model.specs.Steady.{Sound}
use Rattle.sv_state.specs.declared.planning.Plan.{Plan}
use Rattle.sv_state.specs.declared.planning.Plan.TheVariants.{Add, Switch}
use Rattle.sv_state.specs.Planning.{IsPlanOf, Planned, write_refusal}
use Rattle.sv_state_bench.specs.Freezing.{HasRow}
use Rattle.sv_state_bench.proofs.Standings.{own-currents}
use Rattle.sv_state_bench.proofs.Writings.{clear, few-of, may-append, may-switch, may-write-next}
use Rattle.sv_state_bench.proofs.bench.Bench.put.Goals as goal

pub write_plan-requires-clause-current : goal.write_plan-requires-clause-current
write_plan-requires-clause-current c =
    let i = c.self.inside in
    own-currents i.state.books i.actives.items i.outputs.items i.waiting.items c.self.invariant c.args.lane c.args.name.now

pub append-requires : goal.append-requires
append-requires c =
    let b = c.self.inside.state.books in
    let plan = Add c.in-Add.family c.in-Add.cell in
    let planned = subst (λ (o : Plan). Planned b c.args.lane c.args.name.now (write_refusal b) (IsPlanOf b) (Ok o)) c.in-Add.is c.in_ok-family.ensures.planned in
    let p = clear b c.args.lane c.args.name.now (write_refusal b) (IsPlanOf b) plan planned in
    may-append c.write_plan.new.self b c.write_plan.ensures.books c.self.invariant.sound c.args.lane c.args.name.now c.in-Add.family c.in-Add.cell p c.requires c.in_ok-family.ensures.room

pub switch-requires : goal.switch-requires
switch-requires c =
    let b = c.self.inside.state.books in
    let plan = Switch c.in-Switch.family c.in-Switch.cell in
    let planned = subst (λ (o : Plan). Planned b c.args.lane c.args.name.now (write_refusal b) (IsPlanOf b) (Ok o)) c.in-Switch.is c.in_ok-family.ensures.planned in
    let p = clear b c.args.lane c.args.name.now (write_refusal b) (IsPlanOf b) plan planned in
    subst (λ (z : Books). HasRow z c.in-Switch.family) (sym c.write_plan.ensures.books)
    (may-switch b c.self.invariant.sound c.args.lane c.args.name.now c.in-Switch.family c.in-Switch.cell p)

pub append-number-requires : goal.append-number-requires
append-number-requires c =
    let b = c.self.inside.state.books in
    let plan = Switch c.in-Switch.family c.in-Switch.cell in
    let planned = subst (λ (o : Plan). Planned b c.args.lane c.args.name.now (write_refusal b) (IsPlanOf b) (Ok o)) c.in-Switch.is c.in_ok-family.ensures.planned in
    let p = clear b c.args.lane c.args.name.now (write_refusal b) (IsPlanOf b) plan planned in
    let s = c.write_plan.new.self in
    let t = c.switch.new.self in
    let few = subst (λ (z : Books). length z.journal < 262144) (sym c.write_plan.ensures.books) (few-of b c.self.invariant.sound c.args.lane c.args.name.now plan p) in
    may-write-next s.books t.books (subst Sound (sym c.write_plan.ensures.books) c.self.invariant.sound) c.in-Switch.family c.in_ok-switch-in-Switch.ensures.switched
    s t refl refl c.args.lane c.requires c.switch.ensures.spare c.in_ok-family.ensures.room few
