-- The rows of the memtables are the file's writes, and the table that is built of them has its text.
use Rattle.std.proofs.Common.{◌≡◌, List, sym, subst}
use Rattle.std.specs.List.Sorted.{IsPermutation}
use Rattle.sv_model.specs.declared.writes.Numbered.{Numbered}
use Rattle.sv_model.specs.Flat.{numbered_after}
use Rattle.sv_model.specs.TableText.{HasText, table_text}
use Rattle.sv_outputs.specs.Flushing.{IsFlushText, rows_in}
use Rattle.sv_outputs.proofs.FlushTexts.{IsBuilt, built_text, built_well}
use Rattle.sv_outputs.proofs.Results.{both_ok}
use Rattle.sv_outputs.proofs.flushes.flush_text.Goals as goal

pub build-requires-clause-writes : goal.build-requires-clause-writes
build-requires-clause-writes c =
    let writes = rows_in c.args.frozen.now in
    (writes, c.requires.count, subst (λ (l : List Numbered). IsPermutation (numbered_after c.args.file.now.from writes) l) (sym c.deref.ensures.value) c.in_ok-rows.ensures)

pub encode-requires : goal.encode-requires
encode-requires c =
    let file = c.args.file.now in
    let writes = rows_in c.args.frozen.now in
    let moves = subst (λ (l : List Numbered). IsPermutation (numbered_after file.from writes) l) (sym c.deref.ensures.value) c.in_ok-rows.ensures in
    let t = c.in_ok-table.table in
    let built : IsBuilt writes file t = record { due = c.requires; range = c.in_ok-table.ensures.range; flat = c.in_ok-table.ensures.flat writes moves } in
    built_well writes file t built

pub returns : goal.returns
returns c =
    let file = c.args.file.now in
    let writes = rows_in c.args.frozen.now in
    let moves = subst (λ (l : List Numbered). IsPermutation (numbered_after file.from writes) l) (sym c.deref.ensures.value) c.in_ok-rows.ensures in
    let t = c.in_ok-table.table in
    let built : IsBuilt writes file t = record { due = c.requires; range = c.in_ok-table.ensures.range; flat = c.in_ok-table.ensures.flat writes moves } in
    both_ok (λ text. text.items ≡ table_text t.from t.to t.bottom t.rows) (λ text. HasText t.from t.to t.bottom t.rows) (λ text. IsFlushText writes file text.items)
    c.encode.result c.encode.ensures.text c.encode.ensures.has_text
    (λ text is table. built_text writes file t built text.items is table)
