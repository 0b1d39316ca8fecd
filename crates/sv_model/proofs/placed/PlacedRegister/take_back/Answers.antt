use Rattle.std.proofs.Common.{rules, ◌<◌, ◌∙◌, arith, length-set}
use Rattle.sv_model.proofs.PlacedLaws.{last_live, last_within, back_housed, have_places}
use Rattle.sv_model.proofs.placed.PlacedRegister.take_back.Goals as goal

pub offset_bounds-self-inside-place : goal.offset_bounds-self-inside-place
offset_bounds-self-inside-place g c =
    let is = last_live g.T.Placed.lives g.T.Placed.place c.self.inside.records.items c.args.self.now c.pop.new.self.items c.in-Some.last c.self.view_is c.in-Some.ensures.items c.requires in
    let within = last_within g.T.Placed.lives g.T.Placed.place c.self.inside.records.items c.pop.new.self.items c.self.inside.places c.in-Some.last c.in-Some.ensures.items c.self.invariant is in
    let h : c.place.result < g.row.N = omega (arith, c.self.told) in
    search rules

pub bounds-self-inside-place : goal.bounds-self-inside-place
bounds-self-inside-place g c =
    let is = last_live g.T.Placed.lives g.T.Placed.place c.self.inside.records.items c.args.self.now c.pop.new.self.items c.in-Some.last c.self.view_is c.in-Some.ensures.items c.requires in
    let within = last_within g.T.Placed.lives g.T.Placed.place c.self.inside.records.items c.pop.new.self.items c.self.inside.places c.in-Some.last c.in-Some.ensures.items c.self.invariant is in
    omega (arith, c.self.told)

pub invariant_of-self : goal.invariant_of-self
invariant_of-self g c =
    let is = last_live g.T.Placed.lives g.T.Placed.place c.self.inside.records.items c.args.self.now c.pop.new.self.items c.in-Some.last c.self.view_is c.in-Some.ensures.items c.requires in
    back_housed g.T.Placed.lives g.T.Placed.place c.self.inside.records.items c.pop.new.self.items c.self.inside.places c.in-Some.last c.place.result c.in-Some.ensures.items c.self.invariant is c.place.ensures

pub returns-in-Some-clause-placed : goal.returns-in-Some-clause-placed
returns-in-Some-clause-placed g c = have_places g.T.Placed.lives g.T.Placed.place _ _ g.row.N (length-set _ _ _ ∙ c.self.told) (invariant_of-self g c)
