use Rattle.std.proofs.Common.{sym, ◌∙◌}
use Rattle.sv_state.proofs.HeldAgain.{held-again}
use Rattle.sv_state.proofs.live.has_hold.Goals as goal

pub returns-clause-kept : goal.returns-clause-kept
returns-clause-kept c =
    held-again c.args.files.now c.unhold.new.self c.hold.new.self c.args.lane c.unhold.result c.hold.result c.laws.ensures c.requires
    (sym c.is_err.ensures.value ∙ c.if-is_err.false) c.unhold.ensures.ended c.hold.ensures.held c.hold.ensures.refused
