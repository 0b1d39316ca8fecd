use Rattle.sv_version.proofs.SoundFiles.{sound-alone}
use Rattle.sv_version.proofs.versions.Versions.replace_all.Goals as goal

pub append-requires-clause-sound : goal.append-requires-clause-sound
append-requires-clause-sound c = sound-alone c.args.file _ c.requires.begins c.in_ok-files.ensures
