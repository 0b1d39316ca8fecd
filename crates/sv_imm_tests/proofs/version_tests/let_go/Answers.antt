use Rattle.std.proofs.Common.{◌∷◌, [], List, refl, ap, ◌∙◌}
use Rattle.sv_model.specs.declared.records.Version.{Version}
use Rattle.sv_model.specs.Registers.{change}
use Rattle.sv_version.specs.Changes.{live_version, gone_version}
use Rattle.sv_imm_tests.specs.Made.{older_file, newer_file}
use Rattle.sv_imm_tests.proofs.Known.{there}
use Rattle.sv_imm_tests.proofs.KnownVersions.{version_live}
use Rattle.sv_imm_tests.proofs.version_tests.let_go.Goals as goal

pub release-newest-requires : goal.release-newest-requires
release-newest-requires c = version_live _ _ 3 (older_file ∷ newer_file ∷ []) c.in_ok-versions.ensures refl

pub release-shared-requires : goal.release-shared-requires
release-shared-requires c =
    let both = live_version (older_file ∷ newer_file ∷ []) in
    let e = c.release-newest.ensures.gone both (there _ _ 3 both c.in_ok-versions.ensures refl) ∙ ap (λ (l : List Version). change l 3 (gone_version both)) c.in_ok-versions.ensures in
    version_live _ _ 2 (older_file ∷ []) e refl
