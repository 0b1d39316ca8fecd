-- The bytes that were refused are the file's.
use Rattle.std.proofs.Common.{List, ℕ, subst}
use Rattle.sv_file_checks.specs.Checks.{BytesRefusal}
use Rattle.sv_file_checks.proofs.CheckLaws.{bytes_refused}
use Rattle.sv_file_checks.proofs.reads.read_checked.Goals as goal

pub returns-in-Err-check_bytes-clause-refused : goal.returns-in-Err-check_bytes-clause-refused
returns-in-Err-check_bytes-clause-refused g c =
    let file = c.args.file.now in
    let e = c.in-Err-check_bytes.refusal in
    bytes_refused (g.D.Dir.files c.args.dir.now) file c.in-Ok.bytes.items e c.in-Ok.ensures.found
    (subst (λ (bytes : List ℕ). BytesRefusal file bytes e) c.as_slice.ensures.value c.in-Err-check_bytes.ensures.bad)
