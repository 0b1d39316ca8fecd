use Rattle.std.proofs.Common.{rules}
use Rattle.std.proofs.lemmas.Cmp.{nat_list_cmp_total}
use Rattle.std.proofs.lemmas.List.MinMax.{ranks_by}
use Rattle.std.proofs.lemmas.List.Sorted.{answers_always, length_permutation}
use Rattle.std.specs.Cmp.{IsStrictWeakOrder}
use Rattle.sv_merge.specs.declared.placing.Placed.{Placed}
use Rattle.sv_merge.proofs.InOrderLaws.{below, in_order}
use Rattle.sv_merge.proofs.merging.in_order.Goals as goal

pub returns : goal.returns
returns c =
    let e = c.in_ok-sort_by.ensures in
    let weak : IsStrictWeakOrder below = ranks_by nat_list_cmp_total (λ (x : Placed). x.row.now.key) in
    in_order _ _ (e.sorted below weak (answers_always _ _ _ (λ f a r g called. search rules))) (e.stable below weak (answers_always _ _ _ (λ f a r g called. search rules))) (length_permutation _ _ e.permutation)
