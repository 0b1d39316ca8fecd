-- The tables that were read are merged, and the output is put or refused.
use Rattle.std.proofs.Common.{inl, inr, ℕ, List, Option, sym, subst}
use Rattle.sv_model.specs.declared.tables.Table.{Table}
use Rattle.sv_model.specs.Files.{Files}
use Rattle.sv_dir.specs.Files.{PutsFile}
use Rattle.sv_outputs.specs.Compacting.{MergeRefused}
use Rattle.sv_outputs.specs.Merging.{AreMergeable, IsMergeText}
use Rattle.sv_outputs.specs.Putting.{OutputRefused}
use Rattle.sv_outputs.specs.Reading.{AreRead}
use Rattle.sv_outputs.proofs.FileReads.{all_good}
use Rattle.sv_outputs.proofs.MergeFlats.{flat_put, merge_file, not_bad}
use Rattle.sv_outputs.proofs.MergeTables.{mergeable}
use Rattle.sv_outputs.proofs.Results.{if_err, on_ok}
use Rattle.sv_outputs.proofs.compactions.write_compaction.Goals as goal

pub returns-in-Err-clause-flat : goal.returns-in-Err-clause-flat
returns-in-Err-clause-flat g c = λ all journal family told holds.
    not_bad all journal family c.args.files.now c.args.file.now (g.D.Dir.files c.args.dir.now) (g.D.Dir.files c.read_tables.new.dir) c.in-Err.refusal told holds
    (inl (c.in-Err.ensures.refused, c.in-Err.ensures.same))

pub merge_text-requires : goal.merge_text-requires
merge_text-requires g c =
    subst (λ (l : List Table). AreMergeable l c.args.file.now) (sym c.deref.ensures.value)
    (mergeable (g.D.Dir.files c.args.dir.now) c.args.files.now c.in-Ok.tables.items c.args.file.now c.in-Ok.ensures.read c.requires)

pub returns-in_default-clause-refused : goal.returns-in_default-clause-refused
returns-in_default-clause-refused g c =
    inr (all_good (g.D.Dir.files c.args.dir.now) c.args.files.now c.in-Ok.tables.items c.in-Ok.ensures.read, c.in-Ok.ensures.same)

pub returns-clause-refused : goal.returns-clause-refused
returns-clause-refused g c =
    let number = c.args.file.now.number in
    let before = g.D.Dir.files c.args.dir.now in
    let middle = g.D.Dir.files c.read_tables.new.dir in
    let after = g.D.Dir.files c.put_output.new.dir in
    let good = all_good before c.args.files.now c.in-Ok.tables.items c.in-Ok.ensures.read in
    if_err (OutputRefused number middle after) (MergeRefused c.args.files.now c.args.file.now before after) c.put_output.result c.put_output.ensures.refused
    (λ e x. inr (good, subst (λ (b : Option Files). OutputRefused number b after e) c.in-Ok.ensures.same x))

pub returns-clause-flat : goal.returns-clause-flat
returns-clause-flat g c = λ all journal family told holds.
    let file = c.args.file.now in
    let files = c.args.files.now in
    let before = g.D.Dir.files c.args.dir.now in
    let middle = g.D.Dir.files c.read_tables.new.dir in
    let after = g.D.Dir.files c.put_output.new.dir in
    let bytes = c.in-Ok-merge_text.text.items in
    let read = subst (λ (t : Option Files). AreRead t files c.in-Ok.tables.items) told c.in-Ok.ensures.read in
    let merged = subst (λ (l : List Table). IsMergeText l file bytes) c.deref.ensures.value c.in-Ok-merge_text.ensures in
    let text = merge_file all journal family files c.in-Ok.tables.items file bytes c.requires holds read merged in
    let puts = on_ok (PutsFile file.number c.as_slice.result.now middle after) (PutsFile file.number bytes before after) c.put_output.result c.put_output.ensures.put
    (λ x. subst (λ (b : Option Files). PutsFile file.number bytes b after) c.in-Ok.ensures.same (subst (λ (l : List ℕ). PutsFile file.number l middle after) c.as_slice.ensures.value x)) in
    flat_put all journal family files file before after bytes c.put_output.result told holds text puts (returns-clause-refused g c)
