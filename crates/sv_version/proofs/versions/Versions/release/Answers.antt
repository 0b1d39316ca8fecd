use Rattle.sv_version.proofs.Released.{released}
use Rattle.sv_version.proofs.versions.Versions.release.Goals as goal

pub returns : goal.returns
returns c = released c.self.inside.versions c.args.self.now c.release.new.self c.version.inside.0 c.args.version c.release.result.items c.self.view_is c.version.view_is c.release.ensures
