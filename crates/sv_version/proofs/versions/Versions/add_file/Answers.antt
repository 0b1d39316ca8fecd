use Rattle.std.proofs.Common.{◌≡◌, ◌∙◌, ◌++◌, ◌∷◌, [], ℕ, List, Some, ap, subst}
use Rattle.sv_model.specs.declared.records.FileMeta.{FileMeta}
use Rattle.sv_model.specs.declared.records.Version.{Version}
use Rattle.sv_model.specs.Registers.{entry}
use Rattle.sv_version.proofs.SoundFiles.{sound-added}
use Rattle.sv_version.proofs.versions.Versions.add_file.Goals as goal

pub append-requires-clause-sound : goal.append-requires-clause-sound
append-requires-clause-sound c =
    let v : Version = c.get-kept.result.now in
    let at : entry c.args.self.now c.args.version ≡ Some v = subst (λ (z : List Version × ℕ). entry z.0 z.1 ≡ Some v) (λ i. (c.self.view_is i, c.version.view_is i)) c.get-kept.ensures.value in
    sound-added c.args.self.now c.args.version v c.args.file _ c.requires.live at c.get-kept.ensures.sound (c.requires.joins v at) c.requires.unnamed
    (c.in_ok-files.ensures ∙ ap (λ (l : List FileMeta). l ++ c.args.file ∷ []) c.files.ensures)
