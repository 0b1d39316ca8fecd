use Rattle.std.proofs.Common.{arith}
use Rattle.sv_model.proofs.PlacedLaws.{all_but_taken}
use Rattle.sv_model.proofs.placed.PlacedRegister.gone.Goals as goal

pub overflow_sub-result : goal.overflow_sub-result
overflow_sub-result g c =
    omega (arith, c.self.inside.records.ok.0, all_but_taken g.T.Placed.lives g.T.Placed.place c.self.inside.records.items c.args.self.now c.self.inside.places c.count_taken.result c.self.view_is c.self.invariant c.count_taken.ensures)

pub returns : goal.returns
returns g c =
    omega (arith, c.self.inside.records.ok.0, all_but_taken g.T.Placed.lives g.T.Placed.place c.self.inside.records.items c.args.self.now c.self.inside.places c.count_taken.result c.self.view_is c.self.invariant c.count_taken.ensures)
