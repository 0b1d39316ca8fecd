-- The text is put; where the rows are a family's writes, it is that of their flat.
use Rattle.std.proofs.Common.{ℕ, List, subst}
use Rattle.sv_model.specs.HeldFiles.{IsFileText}
use Rattle.sv_dir.specs.Files.{PutsFile}
use Rattle.sv_outputs.specs.Flushing.{rows_in}
use Rattle.sv_outputs.proofs.FlushTexts.{file_text}
use Rattle.sv_outputs.proofs.Results.{on_ok}
use Rattle.sv_outputs.proofs.flushes.write_flush.Goals as goal

pub returns-clause-flat : goal.returns-clause-flat
returns-clause-flat g c = λ journal family own.
    let file = c.args.file.now in
    let before = g.D.Dir.files c.args.dir.now in
    let after = g.D.Dir.files c.put_output.new.dir in
    let bytes = c.in-Ok.text.items in
    on_ok (PutsFile file.number c.as_slice.result.now before after) ((l : List ℕ) × IsFileText journal family file l × PutsFile file.number l before after)
    c.put_output.result c.put_output.ensures.put
    (λ x. (bytes, file_text journal family (rows_in c.args.frozen.now) file bytes own c.in-Ok.ensures, subst (λ (l : List ℕ). PutsFile file.number l before after) c.as_slice.ensures.value x))
