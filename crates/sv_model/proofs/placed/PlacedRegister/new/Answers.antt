use Rattle.sv_model.proofs.PlacedLaws.{none_housed}
use Rattle.sv_model.proofs.placed.PlacedRegister.new.Goals as goal

pub invariant_of-result : goal.invariant_of-result
invariant_of-result g c = none_housed g.T.Placed.lives g.T.Placed.place c.new.result.items g.row.N c.new.ensures.items
