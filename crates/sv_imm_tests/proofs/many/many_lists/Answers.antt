use Rattle.std.proofs.Common.{arith}
use Rattle.sv_imm_tests.proofs.Live.{list-length, list_made, list-length_kept}
use Rattle.sv_imm_tests.proofs.many.many_lists.Goals as goal

pub first-requires : goal.first-requires
first-requires c = let far = c.loop-i.invariant in omega arith

pub release-requires : goal.release-requires
release-requires c = list_made _ _ _ _ c.in_ok-list.ensures.ok

pub loop-i-preserved : goal.loop-i-preserved
loop-i-preserved c =
    let made = list-length _ _ _ _ c.in_ok-list.ensures.ok in
    let kept = list-length_kept _ _ _ _ c.release.ensures (list_made _ _ _ _ c.in_ok-list.ensures.ok) in
    let far = c.loop-i.invariant in
    omega arith
