use Rattle.std.proofs.Common.{ap, ◌∙◌, Some}
use Rattle.sv_model.specs.Families.{IsOwnStanding}
use Rattle.sv_family.specs.Calls.{as_dropped}
use Rattle.sv_family.proofs.ChangedFamilies.{WasRead, changed_is, lawful_drop, own_standing}
use Rattle.sv_family.proofs.SoughtFamilies.{dropped_due_next, dropped_not_due_next}
use Rattle.sv_family.proofs.families.Families.drop_family.Goals as goal

pub returns-then-is_dropped-clause-refused : goal.returns-then-is_dropped-clause-refused
returns-then-is_dropped-clause-refused c =
    dropped_due_next c.args.self.now c.args.lane c.args.name.now c.in_ok-id.id c.in_ok-id.ensures.found _
    c.in_ok-id.ensures.refused (c.is_dropped.ensures ∙ ap Some c.if-is_dropped.true)

was_read : (c : goal.After-self-1) →
    WasRead (IsOwnStanding c.args.lane c.args.name.now) c.self.inside.families.items c.args.self.now c.id.inside.0 c.in_ok-id.id c.index_mut-family.result.now
was_read c = record {
  same = c.self.view_is;
  place = c.id.view_is;
  there = own_standing c.args.self.now c.args.lane c.args.name.now c.in_ok-id.id c.in_ok-id.ensures.found (c.is_dropped.ensures ∙ ap Some c.if-is_dropped.false);
  read = c.index_mut-family.ensures.value;
}

pub invariant_of-self : goal.invariant_of-self
invariant_of-self c =
    lawful_drop c.self.inside.families.items c.args.self.now c.id.inside.0 c.in_ok-id.id
    c.index_mut-family.result.now c.self.invariant c.args.lane c.args.name.now (was_read c) c.in_ok-id.ensures.other

pub returns-clause-changed : goal.returns-clause-changed
returns-clause-changed c =
    changed_is (IsOwnStanding c.args.lane c.args.name.now) c.self.inside.families.items c.args.self.now
    c.id.inside.0 c.in_ok-id.id c.index_mut-family.result.now (was_read c) as_dropped

pub returns-clause-refused : goal.returns-clause-refused
returns-clause-refused c =
    dropped_not_due_next c.args.self.now c.args.lane c.args.name.now c.in_ok-id.id c.in_ok-id.ensures.found _
    c.in_ok-id.ensures.refused (c.in_ok-id.ensures.lawful.meant c.args.lane c.args.name.now)
    (c.is_dropped.ensures ∙ ap Some c.if-is_dropped.false)

pub returns-clause-lawful : goal.returns-clause-lawful
returns-clause-lawful c = invariant_of-self c
