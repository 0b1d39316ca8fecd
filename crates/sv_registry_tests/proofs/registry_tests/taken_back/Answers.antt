use Rattle.std.proofs.Common.{refl}
use Rattle.sv_registry_tests.proofs.registry_tests.taken_back.Goals as goal

pub take_back-requires : goal.take_back-requires
take_back-requires c =
    let made = c.in_ok-made.ensures.made in
    record { before = _; it = _; made = made.made; live = refl }
