use Rattle.std.proofs.Common.{refl}
use Rattle.sv_cells_tests.proofs.tests.taken_back.Goals as goal

pub take_back-requires : goal.take_back-requires
take_back-requires c =
    let made = c.in_ok-made.ensures.made in
    record { before = _; it = _; made = made.made; live = refl }
