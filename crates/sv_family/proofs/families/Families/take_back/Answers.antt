use Rattle.sv_family.proofs.LawfulFamilies.{lawful_pop}
use Rattle.sv_family.proofs.families.Families.take_back.Goals as goal

pub invariant_of-self : goal.invariant_of-self
invariant_of-self c =
    lawful_pop c.self.inside.families.items c.args.self.now c.pop.new.self.items c.pop.result c.self.view_is
    c.requires c.pop.ensures.items c.self.invariant

pub returns-clause-lawful : goal.returns-clause-lawful
returns-clause-lawful c = invariant_of-self c
