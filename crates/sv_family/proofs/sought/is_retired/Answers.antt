use Rattle.sv_family.proofs.SoughtFamilies.{retired_is}
use Rattle.sv_family.proofs.sought.is_retired.Goals as goal

pub returns-then-family : goal.returns-then-family
returns-then-family c = retired_is c.args.family.now c.has_any_handle.result c.has_any_handle.ensures c.if-family.true
