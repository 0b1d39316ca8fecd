use Rattle.std.proofs.Common.{arith, refl, subst, ℕ, ◌∙◌, ◌≡◌}
use Rattle.sv_installs.proofs.Passing.{next-turn, passes-none-yet, passes-one-more}
use Rattle.sv_slots.specs.Installs.{IsPassed}
use Rattle.sv_installs.proofs.sweeps.sweep_all.Goals as goal

pub loop-lane-init : goal.loop-lane-init
loop-lane-init g c = ((refl, refl), passes-none-yet c.args.family c.args.seat.now.seat.me.0)

pub sweep_one-requires-clause-table : goal.sweep_one-requires-clause-table
sweep_one-requires-clause-table g c = c.loop-lane.invariant.0.0 ∙ c.requires.table

pub sweep_one-requires-clause-turn : goal.sweep_one-requires-clause-turn
sweep_one-requires-clause-turn g c =
    next-turn c.args.family c.loop-lane.lane c.args.seat.now.seat.me.0 c.loop-lane.seat.seat.me.0 c.requires.turn.1
    c.loop-lane.invariant.1 (omega (arith, c.loop-lane-test.true, c.requires.turn.0))

pub loop-lane-preserved : goal.loop-lane-preserved
loop-lane-preserved g c =
    let inv = c.loop-lane.invariant in (
      (c.sweep_one.ensures.same.0 ∙ inv.0.0, c.sweep_one.ensures.same.1 ∙ inv.0.1),
      passes-one-more c.args.family c.loop-lane.lane c.args.seat.now.seat.me.0 c.loop-lane.seat.seat.me.0
          c.sweep_one.new.seat.seat.me.0 inv.1 c.sweep_one.ensures.passed,
    )

pub returns-clause-same : goal.returns-clause-same
returns-clause-same g c = c.loop-lane.invariant.0

pub returns-clause-passed : goal.returns-clause-passed
returns-clause-passed g c = λ r s at.
    subst (λ (n : ℕ). IsPassed c.args.family r s n c.loop-lane.seat.seat.me.0)
    (let all : c.loop-lane.lane ≡ c.args.lanes = omega (arith, c.loop-lane-test.false, c.loop-lane.auto.lane-end) in all)
    (c.loop-lane.invariant.1 r s at)
