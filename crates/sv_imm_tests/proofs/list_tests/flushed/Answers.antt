use Rattle.std.proofs.Common.{◌∷◌, [], refl, arith}
use Rattle.sv_imm.specs.Changes.{live_list}
use Rattle.sv_imm_tests.proofs.Known.{there, few, list_live}
use Rattle.sv_imm_tests.proofs.Live.{list_made}
use Rattle.sv_imm_tests.proofs.list_tests.flushed.Goals as goal

pub members-requires : goal.members-requires
members-requires c = list_live _ _ 3 (7 ∷ 8 ∷ []) c.in_ok-lists.ensures refl

pub pop_flushed-requires : goal.pop_flushed-requires
pop_flushed-requires c = record {
  live = list_live _ _ 3 (7 ∷ 8 ∷ []) c.in_ok-lists.ensures refl;
  few = few _ _ c.in_ok-lists.ensures (omega arith);
}

pub members-requires-2 : goal.members-requires-2
members-requires-2 c =
    list_made _ _ _ _ (c.in_ok-newest.ensures.ok (live_list (7 ∷ 8 ∷ [])) (there _ _ 3 (live_list (7 ∷ 8 ∷ [])) c.in_ok-lists.ensures refl))
