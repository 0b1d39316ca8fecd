use Rattle.sv_family.specs.Calls.{IsGivenUp, without_handles}
use Rattle.sv_family.proofs.ChangedFamilies.{WasRead, changed_is, lawful_retire}
use Rattle.sv_family.proofs.families.Families.retire.Goals as goal

was_read : (c : goal.After-self-1) →
    WasRead IsGivenUp c.self.inside.families.items c.args.self.now c.family.inside.0 c.args.family c.index_mut-record.result.now
was_read c = record {
  same = c.self.view_is;
  place = c.family.view_is;
  there = c.requires;
  read = c.index_mut-record.ensures.value;
}

pub invariant_of-self : goal.invariant_of-self
invariant_of-self c =
    lawful_retire c.self.inside.families.items c.args.self.now c.family.inside.0 c.args.family
    c.index_mut-record.result.now c.self.invariant (was_read c)

pub returns-clause-changed : goal.returns-clause-changed
returns-clause-changed c =
    changed_is IsGivenUp c.self.inside.families.items c.args.self.now c.family.inside.0 c.args.family
    c.index_mut-record.result.now (was_read c) without_handles

pub returns-clause-lawful : goal.returns-clause-lawful
returns-clause-lawful c = invariant_of-self c
