use Rattle.sv_model.proofs.PlacedLaws.{room_is, they_have_places}
use Rattle.sv_model.proofs.placed.PlacedRegister.room.Goals as goal

pub returns-clause-least : goal.returns-clause-least
returns-clause-least g c = room_is g.T.Placed.lives g.T.Placed.place c.self.inside.records.items c.args.self.now c.self.inside.places g.row.N c.least_free.result c.self.view_is c.self.told c.self.invariant c.least_free.ensures

pub returns-clause-placed : goal.returns-clause-placed
returns-clause-placed g c = they_have_places g.T.Placed.lives g.T.Placed.place c.self.inside.records.items c.args.self.now c.self.inside.places g.row.N c.self.view_is c.self.told c.self.invariant
