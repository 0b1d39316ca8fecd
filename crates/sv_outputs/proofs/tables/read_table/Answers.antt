-- The bytes that were refused are the file's.
use Rattle.std.proofs.Common.{List, Ok, Err, refl, subst, ℕ}
use Rattle.std.specs.Prelude.{IfErr, Result}
use Rattle.sv_model.specs.declared.refusals.Refusal.{Refusal}
use Rattle.sv_model.specs.declared.tables.Table.{Table}
use Rattle.sv_file_checks.specs.Checks.{ReadRefusal}
use Rattle.sv_outputs.specs.Reading.{TableRefusal}
use Rattle.sv_outputs.proofs.FileReads.{refused_of}
use Rattle.sv_outputs.proofs.tables.read_table.Goals as goal

pub returns-clause-refused : goal.returns-clause-refused
returns-clause-refused g c =
    let file = c.args.file.now in
    refused_of (g.D.Dir.files c.args.dir.now) file c.in-Ok.bytes.items c.table_of.result c.in-Ok.ensures.found
    (subst (λ (bytes : List ℕ). IfErr c.table_of.result (TableRefusal file bytes)) c.as_slice.ensures.value c.table_of.ensures.refused)
