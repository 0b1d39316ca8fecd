use Rattle.std.proofs.Common.{◌-◌, ℕ, length, get_or, sym, subst, ◌∙◌}
use Rattle.std.specs.List.Sorted.{IsNonDecreasing}
use Rattle.sv_model.specs.Flat.{AreCuts}
use Rattle.sv_merge.specs.Placing.{kepts_of}
use Rattle.sv_merge.specs.Merging.{Joined, IsMergeOf}
use Rattle.sv_merge.proofs.BuildLaws.{cuts_rise}
use Rattle.sv_merge.proofs.MergeLaws.{merged_as, merged_flat, joined_ends}
use Rattle.sv_merge.proofs.MergeWellFormed.{merged_well}
use Rattle.sv_merge.proofs.merging.merge.Goals as goal

pub gathered-requires : goal.gathered-requires
gathered-requires c =
    let j = c.requires.joined in subst IsNonDecreasing (sym c.as_slice.ensures.cuts) (cuts_rise j.0 c.args.bottom.cuts j.1 j.3.ascend)

abbrev first : goal.After-from_vec → ℕ
first c = (get_or c.args.tables.now 0 c.index-tables-0.result).from

abbrev last : goal.After-from_vec → ℕ
last c = (get_or c.args.tables.now (length c.args.tables.now - 1) c.index-tables-tables.result).to

ends : (c : goal.After-from_vec) → Joined (first c) c.args.tables.now (last c) × AreCuts (first c) (last c) c.args.bottom.cuts
ends c = joined_ends c.args.bottom.cuts c.args.tables.now c.index-tables-0.result c.index-tables-tables.result c.requires.some c.requires.joined

merged : (c : goal.After-from_vec) → IsMergeOf c.args.tables.now (last c) c.args.bottom c.from_vec.result
merged c =
    merged_as c.args.tables.now (last c) c.args.bottom c.as_slice.result.now (kepts_of c.in_ok-gathered.field-0.items) (kepts_of c.in_ok-rows.rows.items) c.from_vec.result
    c.as_slice.ensures.cuts c.in_ok-gathered.ensures c.in_ok-rows.ensures (c.from_vec.ensures ∙ c.in_ok-rows-2.ensures)

pub returns-clause-range : goal.returns-clause-range
returns-clause-range c = (ends c).0

pub returns-clause-rows : goal.returns-clause-rows
returns-clause-rows c = merged c

pub returns-clause-flat : goal.returns-clause-flat
returns-clause-flat c = λ journal family flats plain.
    merged_flat journal family (first c) (last c) c.args.bottom c.args.tables.now c.from_vec.result (ends c).1 c.requires.above plain c.requires.clear flats (ends c).0 (merged c)

pub returns-clause-well_formed : goal.returns-clause-well_formed
returns-clause-well_formed c = λ are few.
    merged_well (first c) (last c) c.args.bottom c.args.tables.now c.from_vec.result (merged c) c.requires.some (ends c).0 (ends c).1 c.requires.plain are few
