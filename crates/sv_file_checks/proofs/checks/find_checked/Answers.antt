-- Where no field is another, the text is over the file's range.
use Rattle.std.proofs.Common.{sym}
use Rattle.sv_file_checks.proofs.CheckLaws.{text_for}
use Rattle.sv_file_checks.proofs.checks.find_checked.Goals as goal

pub returns-in-None-clause-good : goal.returns-in-None-clause-good
returns-in-None-clause-good c =
    let head = c.in-Ok.head in
    let h = c.in-Ok.ensures.head in
    text_for c.args.file.now c.args.bytes.now head.from head.to head.bottom h.rows (sym c.in-None.ensures) h.text
