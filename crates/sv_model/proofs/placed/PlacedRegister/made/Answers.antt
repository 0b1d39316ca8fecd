use Rattle.sv_model.proofs.PlacedLaws.{they_have_places}
use Rattle.sv_model.proofs.placed.PlacedRegister.made.Goals as goal

pub returns-clause-placed : goal.returns-clause-placed
returns-clause-placed g c = they_have_places g.T.Placed.lives g.T.Placed.place c.self.inside.records.items c.args.self.now c.self.inside.places g.row.N c.self.view_is c.self.told c.self.invariant
