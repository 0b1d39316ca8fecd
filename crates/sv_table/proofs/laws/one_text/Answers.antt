use Rattle.sv_table.proofs.FileText.{texts_are}
use Rattle.sv_table.proofs.laws.one_text.Goals as goal

pub returns : goal.returns
returns c = λ bytes from to other_from other_to bottom other_bottom rows other_rows t u.
    let same = texts_are bytes from to other_from other_to bottom other_bottom rows other_rows t u in
    (same.from_is, same.to_is, same.bottom_is, same.rows_are)
