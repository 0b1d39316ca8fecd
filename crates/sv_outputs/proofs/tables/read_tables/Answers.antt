-- The files so far were read; the next is read, or refused.
use Rattle.std.proofs.Common.{◌+◌, ◌∙◌, List, Option, take, sym, subst, arith}
use Rattle.sv_model.specs.declared.refusals.Refusal.TheVariants as refusal
use Rattle.sv_model.specs.declared.tables.Table.{Table}
use Rattle.sv_model.specs.Files.{Files}
use Rattle.sv_file_checks.specs.Checks.{ReadRefusal}
use Rattle.sv_outputs.specs.Reading.{AreRead, IsRead}
use Rattle.sv_outputs.proofs.FileReads.{read_more, refused_at}
use Rattle.sv_outputs.proofs.tables.read_tables.Goals as goal

pub returns-in-Err-clause-refused : goal.returns-in-Err-clause-refused
returns-in-Err-clause-refused g c =
    let told = g.D.Dir.files c.args.dir.now in
    let l = c.loop-file in
    refused_at told c.args.files.now l.file-index c.file-item.result l.tables.items c.in-Err.refusal c.loop-file-test.true c.file-item.is l.invariant.read
    (subst (λ (t : Option Files). ReadRefusal t c.file-item.result c.in-Err.refusal) l.invariant.same c.in-Err.ensures.refused)

pub returns-in_default-clause-refused : goal.returns-in_default-clause-refused
returns-in_default-clause-refused g c =
    let told = g.D.Dir.files c.args.dir.now in
    let l = c.loop-file in
    refused_at told c.args.files.now l.file-index c.file-item.result l.tables.items refusal.OutOfMemory c.loop-file-test.true c.file-item.is l.invariant.read tt

pub loop-file-preserved : goal.loop-file-preserved
loop-file-preserved g c =
    let told = g.D.Dir.files c.args.dir.now in
    let l = c.loop-file in
    let r = c.in-Ok.ensures in
    let read = subst (λ (t : Option Files). IsRead t c.file-item.result c.in-Ok.table) l.invariant.same r.read in
    record {
      same = r.same ∙ l.invariant.same;
      later = let a = l.invariant.later in let b = r.faults.later in omega arith;
      read = subst (λ (x : List Table). AreRead told (take (l.file-index + 1) c.args.files.now) x) (sym {A = List Table} c.in-Ok-push.ensures.items)
          (read_more told c.args.files.now l.file-index c.file-item.result l.tables.items c.in-Ok.table c.loop-file-test.true c.file-item.is l.invariant.read read);
    }
