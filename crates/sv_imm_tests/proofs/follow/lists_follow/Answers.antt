use Rattle.std.proofs.Common.{length, ap, arith}
use Rattle.sv_imm_tests.proofs.Live.{list-length, list_made, list_empty}
use Rattle.sv_imm_tests.proofs.follow.lists_follow.Goals as goal

pub push-requires : goal.push-requires
push-requires c = record {
  live = list_made _ _ _ _ c.in_ok-empty.ensures.ok;
  short = list_empty _ _ _ c.in_ok-empty.ensures.ok;
  few = let n = list-length _ _ _ _ c.in_ok-empty.ensures.ok in let e = ap length c.new-lists.ensures in omega arith;
}

pub release-freed-requires : goal.release-freed-requires
release-freed-requires c =
    let empty = list_made _ _ _ _ c.in_ok-empty.ensures.ok in
    list_made _ _ _ _ (c.in_ok-one.ensures.ok empty.it empty.at)
