use Rattle.std.proofs.Common.{◌∷◌, [], refl, ap, arith}
use Rattle.sv_model.specs.declared.records.FileMeta.{FileMeta}
use Rattle.sv_version.specs.Changes.{live_version}
use Rattle.sv_imm_tests.specs.Made.{older_file, newer_file}
use Rattle.sv_imm_tests.proofs.Known.{there, few}
use Rattle.sv_imm_tests.proofs.KnownVersions.{version_live, version_joins, version_made, version_added, unnamed}
use Rattle.sv_imm_tests.proofs.version_tests.three.Goals as goal

pub add_file-requires : goal.add_file-requires
add_file-requires c =
    let e = version_made _ [] [] _ _ c.new-versions.ensures c.in_ok-_empty.ensures.ok in
    record {
      live = version_live _ _ 1 [] e refl;
      joins = version_joins _ _ 1 [] 0 _ e refl refl (ap (λ (f : FileMeta). f.from) c.older.ensures);
      unnamed = unnamed 1 _ _ _ e (ap (λ (f : FileMeta). f.number) c.older.ensures) refl;
      few = few _ _ e (omega arith);
    }

pub add_file-requires-2 : goal.add_file-requires-2
add_file-requires-2 c =
    let e = version_made _ [] [] _ _ c.new-versions.ensures c.in_ok-_empty.ensures.ok in
    let f = version_added _ _ [] _ older_file _ _ e c.older.ensures (c.in_ok-_one.ensures.ok (live_version []) (there _ _ 1 (live_version []) e refl)) in
    record {
      live = version_live _ _ 2 (older_file ∷ []) f refl;
      joins = version_joins _ _ 2 (older_file ∷ []) 10 _ f refl (refl, refl) (ap (λ (g : FileMeta). g.from) c.newer.ensures);
      unnamed = unnamed 2 _ _ _ f (ap (λ (g : FileMeta). g.number) c.newer.ensures) refl;
      few = few _ _ f (omega arith);
    }

pub returns : goal.returns
returns c =
    let e = version_made _ [] [] _ _ c.new-versions.ensures c.in_ok-_empty.ensures.ok in
    let f = version_added _ _ [] _ older_file _ _ e c.older.ensures (c.in_ok-_one.ensures.ok (live_version []) (there _ _ 1 (live_version []) e refl)) in
    version_added _ _ (older_file ∷ []) _ newer_file _ _ f c.newer.ensures (c.in_ok-_two.ensures.ok (live_version (older_file ∷ [])) (there _ _ 2 (live_version (older_file ∷ [])) f refl))
