-- What files answer that hold what was written.
use Rattle.std.proofs.Common.{List, subst}
use Rattle.sv_model.specs.declared.records.FileMeta.{FileMeta}
use Rattle.sv_reads.specs.Files.{FilesAnswer}
use Rattle.sv_reads.proofs.FileLooks.{told_looks}
use Rattle.sv_reads.proofs.files.find_in_files.Goals as goal

pub returns-clause-looks : goal.returns-clause-looks
returns-clause-looks g c = λ all journal family reach told serve.
    let was = g.D.Dir.files c.args.dir.now in
    let key = c.args.key.now in
    let answer = subst (λ (l : List FileMeta). FilesAnswer was l key c.args.cut c.find_back.result) c.as_slice.ensures
    c.find_back.ensures.answer in
    told_looks was all journal family key c.args.cut c.args.body.now.files reach c.find_back.result told serve answer
