use Rattle.std.proofs.Common.{refl}
use Rattle.sv_model.specs.Named.{version_live}
use Rattle.sv_version.specs.Changes.{live_version}
use Rattle.sv_objects.proofs.LastMade.{last-live}
use Rattle.sv_objects.proofs.objects.Objects.make_compacted.Goals as goal

pub take_back-requires : goal.take_back-requires
take_back-requires c = last-live version_live _ _ (live_version _) c.in-Ok.ensures.ok.made refl
