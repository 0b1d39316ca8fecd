use Rattle.std.proofs.Common.{arith}
use Rattle.sv_imm_tests.proofs.Live.{version-length, version_made, version-length_kept}
use Rattle.sv_imm_tests.proofs.many.many_versions.Goals as goal

pub first-requires : goal.first-requires
first-requires c = let far = c.loop-i.invariant in omega arith

pub release-requires : goal.release-requires
release-requires c = version_made _ _ _ _ c.in_ok-version.ensures.ok

pub loop-i-preserved : goal.loop-i-preserved
loop-i-preserved c =
    let made = version-length _ _ _ _ c.in_ok-version.ensures.ok in
    let kept = version-length_kept _ _ _ _ c.release.ensures (version_made _ _ _ _ c.in_ok-version.ensures.ok) in
    let far = c.loop-i.invariant in
    omega arith
