use Rattle.std.proofs.Common.{◌∷◌, [], refl, arith}
use Rattle.sv_imm.specs.Changes.{live_list}
use Rattle.sv_imm_tests.proofs.Known.{there, few, list_live, list_short, list_made}
use Rattle.sv_imm_tests.proofs.list_tests.three.Goals as goal

pub push-requires : goal.push-requires
push-requires c =
    let e = list_made _ [] [] _ _ c.new-lists.ensures c.in_ok-_empty.ensures.ok in
    record {
      live = list_live _ _ 1 [] e refl;
      short = list_short _ _ 1 [] e refl (omega arith);
      few = few _ _ e (omega arith);
    }

pub push-requires-2 : goal.push-requires-2
push-requires-2 c =
    let e = list_made _ [] [] _ _ c.new-lists.ensures c.in_ok-_empty.ensures.ok in
    let f = list_made _ _ (7 ∷ []) _ _ e (c.in_ok-_one.ensures.ok (live_list []) (there _ _ 1 (live_list []) e refl)) in
    record {
      live = list_live _ _ 2 (7 ∷ []) f refl;
      short = list_short _ _ 2 (7 ∷ []) f refl (omega arith);
      few = few _ _ f (omega arith);
    }

pub returns : goal.returns
returns c =
    let e = list_made _ [] [] _ _ c.new-lists.ensures c.in_ok-_empty.ensures.ok in
    let f = list_made _ _ (7 ∷ []) _ _ e (c.in_ok-_one.ensures.ok (live_list []) (there _ _ 1 (live_list []) e refl)) in
    list_made _ _ (7 ∷ 8 ∷ []) _ _ f (c.in_ok-_two.ensures.ok (live_list (7 ∷ [])) (there _ _ 2 (live_list (7 ∷ [])) f refl))
