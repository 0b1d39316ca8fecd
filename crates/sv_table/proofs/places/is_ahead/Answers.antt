use Rattle.std.proofs.Common.{nat_lt, sym, ap, ◌∙◌}
use Rattle.sv_model.proofs.SearchLaws.{ahead_equal, ahead_greater}
use Rattle.sv_table.proofs.places.is_ahead.Goals as goal

pub returns-in-Equal : goal.returns-in-Equal
returns-in-Equal c = ap (nat_lt c.args.cut) c.end_of.ensures ∙ sym (ahead_equal c.args.row.key.now c.args.key.now _ (sym c.order_bytes.ensures ∙ c.in-Equal.is))

pub returns-in-Greater : goal.returns-in-Greater
returns-in-Greater c = sym (ahead_greater c.args.row.key.now c.args.key.now _ (sym c.order_bytes.ensures ∙ c.in-Greater.is))
