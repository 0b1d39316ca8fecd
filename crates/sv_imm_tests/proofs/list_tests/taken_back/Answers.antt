use Rattle.std.proofs.Common.{◌∷◌, [], List, length, refl, sym, subst, arith}
use Rattle.sv_model.specs.declared.records.MemtableList.{MemtableList}
use Rattle.sv_model.specs.Named.{IsLiveList}
use Rattle.sv_imm.specs.Changes.{live_list}
use Rattle.sv_imm_tests.proofs.Known.{few, before, list_live, list_short}
use Rattle.sv_imm_tests.proofs.list_tests.taken_back.Goals as goal

pub take_back-requires : goal.take_back-requires
take_back-requires c =
    subst (λ (l : List MemtableList). IsLiveList l (length l)) (sym c.in_ok-lists.ensures) (list_live _ _ 3 (7 ∷ 8 ∷ []) refl refl)

pub push-requires : goal.push-requires
push-requires c =
    let e = before _ (live_list [] ∷ live_list (7 ∷ []) ∷ []) _ (live_list (7 ∷ 8 ∷ [])) c.take_back.ensures.0 c.in_ok-lists.ensures c.take_back.ensures.1 in
    record {
      live = list_live _ _ 2 (7 ∷ []) e refl;
      short = list_short _ _ 2 (7 ∷ []) e refl (omega arith);
      few = few _ _ e (omega arith);
    }
