use Rattle.std.proofs.Common.{◌∷◌, [], List, refl, ap, ◌∙◌}
use Rattle.sv_model.specs.declared.records.MemtableList.{MemtableList}
use Rattle.sv_model.specs.Registers.{change}
use Rattle.sv_imm.specs.Changes.{live_list, gone_list}
use Rattle.sv_imm_tests.proofs.Known.{there, list_live}
use Rattle.sv_imm_tests.proofs.list_tests.let_go.Goals as goal

pub release-newest-requires : goal.release-newest-requires
release-newest-requires c = list_live _ _ 3 (7 ∷ 8 ∷ []) c.in_ok-lists.ensures refl

pub release-shared-requires : goal.release-shared-requires
release-shared-requires c =
    let both = live_list (7 ∷ 8 ∷ []) in
    let e = c.release-newest.ensures.gone both (there _ _ 3 both c.in_ok-lists.ensures refl) ∙ ap (λ (l : List MemtableList). change l 3 (gone_list both)) c.in_ok-lists.ensures in
    list_live _ _ 2 (7 ∷ []) e refl
