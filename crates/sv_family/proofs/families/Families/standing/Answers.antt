use Rattle.std.proofs.Common.{is_some, ap, ◌∙◌}
use Rattle.sv_family.proofs.SoughtFamilies.{standing_at, standing_exact}
use Rattle.sv_family.proofs.families.Families.standing.Goals as goal

pub returns-in_err-at-clause-exact : goal.returns-in_err-at-clause-exact
returns-in_err-at-clause-exact c =
    ap is_some c.from_residual.ensures
    ∙ standing_exact c.deref.result.now c.args.self.now (c.deref.ensures.value ∙ c.self.view_is) c.args.name.now _
    c.in_err-at.ensures

pub returns-clause-standing : goal.returns-clause-standing
returns-clause-standing c =
    standing_at c.deref.result.now c.args.self.now (c.deref.ensures.value ∙ c.self.view_is) c.args.name.now
    c.in_ok-at.at c.in_ok-at.ensures

pub returns-clause-exact : goal.returns-clause-exact
returns-clause-exact c =
    standing_exact c.deref.result.now c.args.self.now (c.deref.ensures.value ∙ c.self.view_is) c.args.name.now _
    c.in_ok-at.ensures
