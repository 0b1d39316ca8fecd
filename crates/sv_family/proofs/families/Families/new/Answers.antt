use Rattle.sv_family.proofs.LawfulFamilies.{lawful_new}
use Rattle.sv_family.proofs.families.Families.new.Goals as goal

pub invariant_of-result : goal.invariant_of-result
invariant_of-result c =
    lawful_new c.new-families.result.items c.push.new.self.items c.default_family.result
    c.new-families.ensures.items c.default_family.ensures c.in_ok-push.ensures.items

pub returns-clause-lawful : goal.returns-clause-lawful
returns-clause-lawful c = invariant_of-result c
