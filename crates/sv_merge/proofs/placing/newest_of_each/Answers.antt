use Rattle.std.proofs.Common.{rules, ap, ◌∙◌}
use Rattle.std.proofs.lemmas.Fn.{dedup_same}
use Rattle.sv_merge.specs.Placing.{kepts_of}
use Rattle.sv_merge.proofs.PlacingLaws.{same_placed, map_dedup}
use Rattle.sv_merge.proofs.placing.newest_of_each.Goals as goal

pub returns : goal.returns
returns c =
    ap kepts_of (dedup_same _ same_placed _ (λ x y b f' x' y' k. search rules) _ _ c.dedup_by.ensures.filtered) ∙ map_dedup c.args.rows.items
