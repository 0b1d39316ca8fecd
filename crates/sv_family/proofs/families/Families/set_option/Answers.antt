use Rattle.std.proofs.Common.{set, sym, subst}
use Rattle.sv_model.specs.Families.{AreFamilies, IsOwnStanding}
use Rattle.sv_family.specs.Calls.{IsChanged, as_set}
use Rattle.sv_family.proofs.ChangedFamilies.{WasRead, changed_is, lawful_option, set_in_range}
use Rattle.sv_family.proofs.families.Families.set_option.Goals as goal

was_read : (c : goal.After-self-1) →
    WasRead (IsOwnStanding c.args.lane c.args.name.now) c.self.inside.families.items c.args.self.now c.id.inside.0 c.in_ok-id.id c.index_mut-family.result.now
was_read c =
    record
    { same = c.self.view_is; place = c.id.view_is; there = c.in_ok-id.ensures.found; read = c.index_mut-family.ensures.value }

pub invariant_of-self : goal.invariant_of-self
invariant_of-self c =
    subst
    (λ o. AreFamilies (set c.self.inside.families.items c.id.inside.0 (record c.index_mut-family.result.now { options = o })))
    (sym c.with_option-family.ensures)
    (lawful_option c.self.inside.families.items c.args.self.now c.id.inside.0 c.in_ok-id.id c.index_mut-family.result.now c.self.invariant c.args.lane c.args.name.now c.args.option c.args.value (was_read c) (set_in_range c.args.self.now c.args.lane c.args.name.now c.args.option c.args.value c.in_ok-id.ensures.refused))

pub returns-clause-changed : goal.returns-clause-changed
returns-clause-changed c =
    subst
    (λ o. IsChanged (IsOwnStanding c.args.lane c.args.name.now) (as_set c.args.option c.args.value) c.args.self.now c.in_ok-id.id (set c.self.inside.families.items c.id.inside.0 (record c.index_mut-family.result.now { options = o })))
    (sym c.with_option-family.ensures)
    (changed_is (IsOwnStanding c.args.lane c.args.name.now) c.self.inside.families.items c.args.self.now c.id.inside.0 c.in_ok-id.id c.index_mut-family.result.now (was_read c) (as_set c.args.option c.args.value))

pub returns-clause-lawful : goal.returns-clause-lawful
returns-clause-lawful c = invariant_of-self c
