-- All lanes of the table are passed.
use Rattle.std.proofs.Common.{arith, subst, ℕ, ◌<◌, ◌≡◌}
use Rattle.sv_installs.proofs.Passing.{PassesTo}
use Rattle.sv_installs.proofs.Retiring.{none-swept}
use Rattle.sv_installs.specs.Sweeping.{BeginsSweep}
use Rattle.sv_model.specs.Books.{Books}
use Rattle.sv_rule.specs.Views.{LaneView}
use Rattle.sv_slots.specs.Installs.{IsPassed}

pub some-lanes : (lanes : ℕ) (v : LaneView) → 0 < lanes → lanes ≡ v.seat.lanes → 0 < v.seat.lanes
some-lanes lanes v some are = omega (arith, some, are)

pub all-swept : (b : Books) (f r : ℕ) (v : LaneView) (h : BeginsSweep b f r v) → 0 < v.seat.lanes → (lanes : ℕ)
    → lanes ≡ v.seat.lanes → (u : LaneView) → PassesTo f v lanes u → IsPassed f r v v.seat.lanes u
all-swept b f r v h some lanes are u go =
    subst (λ (n : ℕ). IsPassed f r v n u) are (go r v (none-swept b f r v h some))
