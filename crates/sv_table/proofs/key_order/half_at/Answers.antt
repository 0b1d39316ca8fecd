use Rattle.std.proofs.Common.{◌∙◌}
use Rattle.sv_table.proofs.WordOrder.{four_are}
use Rattle.sv_table.proofs.key_order.half_at.Goals as goal

pub returns : goal.returns
returns c = c.from_be_bytes.ensures ∙ four_are c.args.bytes.now c.args.at c.requires
