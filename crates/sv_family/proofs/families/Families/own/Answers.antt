use Rattle.std.proofs.Common.{is_some, ap, ◌∙◌}
use Rattle.sv_family.proofs.SoughtFamilies.{own_at, own_exact}
use Rattle.sv_family.proofs.families.Families.own.Goals as goal

pub returns-in_err-at-clause-exact : goal.returns-in_err-at-clause-exact
returns-in_err-at-clause-exact c =
    ap is_some c.from_residual.ensures
    ∙ own_exact c.deref.result.now c.args.self.now (c.deref.ensures.value ∙ c.self.view_is) c.args.lane
    c.args.name.now _ c.in_err-at.ensures

pub returns-clause-own : goal.returns-clause-own
returns-clause-own c =
    own_at c.deref.result.now c.args.self.now (c.deref.ensures.value ∙ c.self.view_is) c.args.lane c.args.name.now
    c.in_ok-at.at c.in_ok-at.ensures

pub returns-clause-exact : goal.returns-clause-exact
returns-clause-exact c =
    own_exact c.deref.result.now c.args.self.now (c.deref.ensures.value ∙ c.self.view_is) c.args.lane
    c.args.name.now _ c.in_ok-at.ensures
