use Rattle.std.proofs.Common.{◌∷◌, [], refl, ap, arith}
use Rattle.sv_model.specs.declared.records.FileMeta.{FileMeta}
use Rattle.sv_imm_tests.specs.Made.{older_file, newer_file}
use Rattle.sv_imm_tests.proofs.Known.{few}
use Rattle.sv_imm_tests.proofs.KnownVersions.{version_live, version_joins, unnamed}
use Rattle.sv_imm_tests.proofs.Live.{version_made}
use Rattle.sv_imm_tests.proofs.version_tests.replaced.Goals as goal

pub files-requires : goal.files-requires
files-requires c = version_live _ _ 3 (older_file ∷ newer_file ∷ []) c.in_ok-versions.ensures refl

pub replace_all-requires : goal.replace_all-requires
replace_all-requires c = record {
  live = version_live _ _ 3 (older_file ∷ newer_file ∷ []) c.in_ok-versions.ensures refl;
  begins = ap (λ (f : FileMeta). f.from) c.merged.ensures;
  covers = version_joins _ _ 3 (older_file ∷ newer_file ∷ []) 20 _ c.in_ok-versions.ensures refl (refl, (refl, refl)) (ap (λ (f : FileMeta). f.to) c.merged.ensures);
  unnamed = unnamed 3 _ _ _ c.in_ok-versions.ensures (ap (λ (f : FileMeta). f.number) c.merged.ensures) refl;
  few = few _ _ c.in_ok-versions.ensures (omega arith);
}

pub files-requires-2 : goal.files-requires-2
files-requires-2 c = version_made _ _ _ _ c.in_ok-merged.ensures.ok
