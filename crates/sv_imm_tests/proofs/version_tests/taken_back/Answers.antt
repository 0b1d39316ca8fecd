use Rattle.std.proofs.Common.{◌∷◌, [], List, length, refl, sym, subst}
use Rattle.sv_model.specs.declared.records.Version.{Version}
use Rattle.sv_model.specs.Named.{IsLiveVersion}
use Rattle.sv_version.specs.Changes.{live_version}
use Rattle.sv_imm_tests.specs.Made.{older_file, newer_file}
use Rattle.sv_imm_tests.proofs.Known.{before}
use Rattle.sv_imm_tests.proofs.KnownVersions.{version_live}
use Rattle.sv_imm_tests.proofs.version_tests.taken_back.Goals as goal

pub take_back-requires : goal.take_back-requires
take_back-requires c =
    subst (λ (l : List Version). IsLiveVersion l (length l)) (sym c.in_ok-versions.ensures) (version_live _ _ 3 (older_file ∷ newer_file ∷ []) refl refl)

pub release-requires : goal.release-requires
release-requires c =
    let e = before _ (live_version [] ∷ live_version (older_file ∷ []) ∷ []) _ (live_version (older_file ∷ newer_file ∷ [])) c.take_back.ensures.0 c.in_ok-versions.ensures c.take_back.ensures.1 in
    version_live _ _ 2 (older_file ∷ []) e refl
