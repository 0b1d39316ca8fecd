use Rattle.std.proofs.Common.{◌≡◌, List, map, Bor, sym, ap, subst, ◌∙◌, ℕ, ◌+◌, length}
use Rattle.std.specs.List.{dedup}
use Rattle.std.specs.List.Sorted.{IsNonDecreasing}
use Rattle.sv_model.specs.declared.writes.Kept.{Kept}
use Rattle.sv_model.specs.declared.writes.Numbered.{Numbered}
use Rattle.sv_model.specs.Flat.{IsFlatOf}
use Rattle.sv_merge.specs.Building.{placed}
use Rattle.sv_merge.specs.Placing.{same_place, thinned}
use Rattle.sv_merge.proofs.BuildLaws.{built_flat, cuts_rise, same_length}
use Rattle.sv_merge.proofs.building.build.Goals as goal

pub placed-requires : goal.placed-requires
placed-requires c = subst IsNonDecreasing (sym c.as_slice-cuts.ensures.cuts) (cuts_rise c.args.from c.args.bottom.cuts c.args.to c.requires.cuts.ascend)

pub returns-clause-flat : goal.returns-clause-flat
returns-clause-flat c = λ writes permuted.
    let given = c.requires.writes in
    let sorted : List Numbered = map (λ (n : Bor Numbered). n.now) c.in_ok-sorted.sorted.items in
    let full : c.args.from + length writes ≡ c.args.to = ap (λ (k : ℕ). c.args.from + k) (same_length c.args.from writes given.0 c.args.rows.now permuted given.2) ∙ given.1 in
    let is : c.from_vec.result ≡ thinned c.args.bottom.last (dedup same_place (map (placed c.args.bottom.cuts c.args.to) sorted)) =
    c.from_vec.ensures
    ∙ c.in_ok-rows.ensures
    ∙ ap (λ (l : List Kept). thinned c.args.bottom.last (dedup same_place l))
    (c.in_ok-placed.ensures ∙ (λ i. map (placed (c.as_slice-cuts.ensures.cuts i) c.args.to) (map (λ (n : Bor Numbered). n.now) (c.deref.ensures.value i)))) in
    subst (λ (x : List Kept). IsFlatOf c.args.from c.args.to c.args.bottom writes x) (sym is)
    (built_flat c.args.from c.args.to c.args.bottom writes c.args.rows.now sorted c.requires.cuts full permuted c.in_ok-sorted.ensures)
