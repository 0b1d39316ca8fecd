-- A read of the file answers what its bytes do.
use Rattle.std.proofs.Common.{◌≡◌, ℕ, List, Err, subst}
use Rattle.sv_reads.specs.OneFile.{BytesAnswer, BytesTell}
use Rattle.sv_reads.proofs.FoundHits.{file_tells, read_refused}
use Rattle.sv_reads.proofs.files.find_in_file.Goals as goal

pub returns-in-Ok-op_in-clause-answer : goal.returns-in-Ok-op_in-clause-answer
returns-in-Ok-op_in-clause-answer g c =
    let file = c.args.file.now in
    let key = c.args.key.now in
    let found = c.in-Ok-op_in.found in
    file_tells (g.D.Dir.files c.args.dir.now) file c.in-Ok.bytes.items key c.args.cut found c.in-Ok.ensures.found
    (subst (λ (bytes : List ℕ). BytesTell file key c.args.cut found bytes) c.as_slice.ensures.value c.in-Ok-op_in.ensures)

pub returns-clause-answer : goal.returns-clause-answer
returns-clause-answer g c =
    let file = c.args.file.now in
    let key = c.args.key.now in
    let e = c.in-Err-op_in.refusal in
    read_refused (g.D.Dir.files c.args.dir.now) file c.in-Ok.bytes.items key c.args.cut e c.in-Ok.ensures.found
    (subst (λ (bytes : List ℕ). BytesAnswer file bytes key c.args.cut (Err e)) c.as_slice.ensures.value c.in-Err-op_in.ensures)
