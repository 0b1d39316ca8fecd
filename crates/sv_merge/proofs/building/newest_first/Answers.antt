use Rattle.std.proofs.Common.{Bor, ◌∙◌, rules}
use Rattle.std.proofs.lemmas.List.{take_all}
use Rattle.std.proofs.lemmas.List.Sorted.{answers_always}
use Rattle.sv_model.specs.declared.writes.Numbered.{Numbered}
use Rattle.sv_merge.specs.Building.{is_ahead}
use Rattle.sv_merge.proofs.NewestFirst.{ahead_weak_refs}
use Rattle.sv_merge.proofs.BuildLaws.{newest_first}
use Rattle.sv_merge.proofs.building.newest_first.Goals as goal

pub returns : goal.returns
returns c =
    let e = c.in_ok-sort_by.ensures in
    let all = c.loop-row.invariant ∙ take_all c.loop-row.row-index c.args.rows.now c.loop-row-test.false in
    newest_first c.args.rows.now c.loop-row.sorted.items c.sort_by.new.self.items all e.permutation (e.sorted (λ (x y : Bor Numbered). is_ahead x.now y.now) ahead_weak_refs (answers_always _ _ _ (λ f a r g called. search rules)))
