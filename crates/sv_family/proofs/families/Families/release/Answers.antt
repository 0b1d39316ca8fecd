use Rattle.std.proofs.Common.{false}
use Rattle.sv_model.specs.Families.{IsOwn}
use Rattle.sv_family.specs.Calls.{with_handle}
use Rattle.sv_family.proofs.ChangedFamilies.{WasRead, changed_is, lawful_release}
use Rattle.sv_family.proofs.families.Families.release.Goals as goal

was_read : (c : goal.After-self-1) →
    WasRead (IsOwn c.args.lane c.args.name.now) c.self.inside.families.items c.args.self.now c.id.inside.0 c.in_ok-id.id c.index_mut-family.result.now
was_read c =
    record
    { same = c.self.view_is; place = c.id.view_is; there = c.in_ok-id.ensures.found; read = c.index_mut-family.ensures.value }

pub invariant_of-self : goal.invariant_of-self
invariant_of-self c =
    lawful_release c.self.inside.families.items c.args.self.now c.id.inside.0 c.in_ok-id.id
    c.index_mut-family.result.now c.self.invariant c.args.lane c.args.name.now (was_read c) c.in_ok-id.ensures.other

pub returns-clause-changed : goal.returns-clause-changed
returns-clause-changed c =
    changed_is (IsOwn c.args.lane c.args.name.now) c.self.inside.families.items c.args.self.now c.id.inside.0
    c.in_ok-id.id c.index_mut-family.result.now (was_read c) (with_handle c.args.lane false)

pub returns-clause-lawful : goal.returns-clause-lawful
returns-clause-lawful c = invariant_of-self c
