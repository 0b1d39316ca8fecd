use Rattle.std.proofs.Common.{subst, sym, ℕ}
use Rattle.sv_rule.specs.Views.{Body}
use Rattle.sv_slots.proofs.Lent.{hit-known, hit-lends}
use Rattle.sv_slots.specs.Seats.{Lends}
use Rattle.sv_slots_tests.specs.World.{body_of}
use Rattle.sv_slots_tests.specs.declared.world.Shared.{Shared}
use Rattle.sv_slots_tests.proofs.slot_tests.lends_what_is_cached.Goals as goal

abbrev body : Shared → Body
body shared = body_of shared.family

pub give_back-requires-clause-lent : goal.give_back-requires-clause-lent
give_back-requires-clause-lent g c =
    let h = c.in-Ok.ensures.ok in let w = c.try_borrow.new.seat.seat.me.0 in let sv = c.in-Ok.borrow.sv in
    subst (λ (z : ℕ). Lends w z sv.pack) (sym h.0) (hit-lends body 2 sv _ w h.1)

pub give_back-requires-clause-known : goal.give_back-requires-clause-known
give_back-requires-clause-known g c =
    hit-known body 2 c.in-Ok.borrow.sv _ c.try_borrow.new.seat.seat.me.0 c.in-Ok.ensures.ok.1
