use Rattle.std.proofs.Common.{ℕ, List, subst}
use Rattle.sv_model.specs.TableText.{AreBytes}
use Rattle.sv_table.proofs.WrittenText.{row_stored}
use Rattle.sv_table.proofs.encoding.put_row.Goals as goal

pub returns-clause-stored : goal.returns-clause-stored
returns-clause-stored c =
    let k = c.as_bytes.ensures in
    row_stored c.put_op.result c.args.kept.now.row k.least k.greatest (subst (λ (z : List ℕ). AreBytes z) k.bytes c.in_ok-put_key.ensures.bytes) c.put_op.ensures.stored
