use Rattle.std.proofs.Common.{sym, ap, not, ◌∙◌}
use Rattle.sv_table.proofs.KeyTests.{key_less, key_equal, key_greater}
use Rattle.sv_table.proofs.rows.key_fits.Goals as goal

pub returns-in-Less : goal.returns-in-Less
returns-in-Less c =
    ap not c.is_open.ensures ∙ key_less _ _ c.args.seen.key.now c.args.key.now (sym c.has_cuts.ensures ∙ c.if-not-has_cuts.false) (sym c.order_bytes-order.ensures ∙ c.in-Less.is)

pub returns-in-Equal : goal.returns-in-Equal
returns-in-Equal c = key_equal _ _ c.args.seen.key.now c.args.key.now (sym c.has_cuts.ensures ∙ c.if-not-has_cuts.false) (sym c.order_bytes-order.ensures ∙ c.in-Equal.is)

pub returns-in-Greater : goal.returns-in-Greater
returns-in-Greater c = key_greater _ _ c.args.seen.key.now c.args.key.now (sym c.has_cuts.ensures ∙ c.if-not-has_cuts.false) (sym c.order_bytes-order.ensures ∙ c.in-Greater.is)
