-- The tables can be merged, and the merge has its text.
use Rattle.std.proofs.Common.{◌≡◌}
use Rattle.sv_model.specs.TableText.{HasText, table_text}
use Rattle.sv_outputs.specs.Merging.{IsMergeText}
use Rattle.sv_outputs.proofs.MergeTables.{IsMerge, merged_text, merged_well, never}
use Rattle.sv_outputs.proofs.Results.{both_ok}
use Rattle.sv_outputs.proofs.merging.merge_text.Goals as goal

pub merge-requires-clause-joined : goal.merge-requires-clause-joined
merge-requires-clause-joined c = (c.args.file.now.from, c.args.file.now.to, c.requires.joined, c.requires.cuts)

pub merge-requires-clause-plain : goal.merge-requires-clause-plain
merge-requires-clause-plain c = λ e well. absurd (never c.args.file.now.bottom.last c.requires.kind e)

pub encode-requires : goal.encode-requires
encode-requires c =
    let file = c.args.file.now in
    let tables = c.args.tables.now in
    let t = c.in_ok-table.table in
    let is = c.in_ok-table.ensures in
    let merge : IsMerge tables file t = record { due = c.requires; range = is.range; bottom_is = is.bottom; merge = is.rows; flat = is.flat; well = is.well_formed } in
    merged_well tables file t merge

pub returns : goal.returns
returns c =
    let file = c.args.file.now in
    let tables = c.args.tables.now in
    let t = c.in_ok-table.table in
    let is = c.in_ok-table.ensures in
    let merge : IsMerge tables file t = record { due = c.requires; range = is.range; bottom_is = is.bottom; merge = is.rows; flat = is.flat; well = is.well_formed } in
    both_ok (λ text. text.items ≡ table_text t.from t.to t.bottom t.rows) (λ text. HasText t.from t.to t.bottom t.rows) (λ text. IsMergeText tables file text.items)
    c.encode.result c.encode.ensures.text c.encode.ensures.has_text
    (λ text bytes table. merged_text tables file t merge text.items bytes table)
