use Rattle.std.proofs.Common.{true, ◌∙◌, sym}
use Rattle.sv_model.specs.Families.{IsStanding}
use Rattle.sv_family.specs.Calls.{with_handle}
use Rattle.sv_family.proofs.ChangedFamilies.{WasRead, changed_is, lawful_open}
use Rattle.sv_family.proofs.OpenedFamilies.{fresh_to}
use Rattle.sv_family.proofs.families.Families.open_family.Goals as goal

was_read : (c : goal.After-self-1) →
    WasRead (IsStanding c.args.name.now) c.self.inside.families.items c.args.self.now c.id.inside.0 c.in-Some.id c.index_mut-family.result.now
was_read c =
    record
    { same = c.self.view_is; place = c.id.view_is; there = c.in-Some.ensures.standing; read = c.index_mut-family.ensures.value }

pub invariant_of-self : goal.invariant_of-self
invariant_of-self c =
    lawful_open c.self.inside.families.items c.args.self.now c.id.inside.0 c.in-Some.id
    c.index_mut-family.result.now c.self.invariant c.args.lane c.args.name.now (was_read c)
    (sym c.own.ensures.exact ∙ sym c.is_some.ensures ∙ c.if-is_some.false)

pub returns-clause-changed : goal.returns-clause-changed
returns-clause-changed c =
    changed_is (IsStanding c.args.name.now) c.self.inside.families.items c.args.self.now c.id.inside.0 c.in-Some.id
    c.index_mut-family.result.now (was_read c) (with_handle c.args.lane true)

pub returns-clause-lawful : goal.returns-clause-lawful
returns-clause-lawful c = invariant_of-self c

pub returns-clause-fresh : goal.returns-clause-fresh
returns-clause-fresh c =
    fresh_to c.self.inside.families.items c.args.self.now c.self.view_is c.args.lane c.args.name.now c.self.invariant
    c.requires (sym c.own.ensures.exact ∙ sym c.is_some.ensures ∙ c.if-is_some.false) c.in-Some.id
    c.in-Some.ensures.standing
