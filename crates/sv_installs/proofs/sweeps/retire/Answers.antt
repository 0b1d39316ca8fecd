use Rattle.sv_installs.proofs.Retiring.{first-turn, left-desk, left-owed, left-reclaimed, swept-held, swept-may}
use Rattle.sv_installs.proofs.SweptLanes.{all-swept, some-lanes}
use Rattle.sv_installs.proofs.sweeps.retire.Goals as goal

pub sweep_all-requires-clause-turn : goal.sweep_all-requires-clause-turn
sweep_all-requires-clause-turn g c =
    let lanes = c.requires.lanes in (
      lanes.3,
      first-turn c.args.held.now.books c.args.family c.args.old.pack c.args.seat.now.seat.me.0 c.requires.begins
          (some-lanes c.args.lanes c.args.seat.now.seat.me.0 lanes.2 lanes.3),
    )

pub drop_ref-left-requires-clause-held : goal.drop_ref-left-requires-clause-held
drop_ref-left-requires-clause-held g c =
    let lanes = c.requires.lanes in let v = c.args.seat.now.seat.me.0 in
    let some = some-lanes c.args.lanes v lanes.2 lanes.3 in let b = c.args.held.now.books in
    let u = c.sweep_all.new.seat.seat.me.0 in
    swept-held b c.args.family c.args.old.pack v c.requires.begins some u
    (all-swept b c.args.family c.args.old.pack v c.requires.begins some c.args.lanes lanes.3 u c.sweep_all.ensures.passed)

pub drop_ref-left-requires-clause-may : goal.drop_ref-left-requires-clause-may
drop_ref-left-requires-clause-may g c =
    let lanes = c.requires.lanes in let v = c.args.seat.now.seat.me.0 in
    let some = some-lanes c.args.lanes v lanes.2 lanes.3 in let b = c.args.held.now.books in
    let u = c.sweep_all.new.seat.seat.me.0 in
    swept-may b c.args.family c.args.old.pack v c.requires.begins some u
    (all-swept b c.args.family c.args.old.pack v c.requires.begins some c.args.lanes lanes.3 u c.sweep_all.ensures.passed)

pub clean-requires-clause-desk : goal.clean-requires-clause-desk
clean-requires-clause-desk g c =
    let lanes = c.requires.lanes in let v = c.args.seat.now.seat.me.0 in
    let some = some-lanes c.args.lanes v lanes.2 lanes.3 in let b = c.args.held.now.books in
    let u = c.sweep_all.new.seat.seat.me.0 in let d = c.drop_ref-left in
    left-desk b c.args.family c.args.old.pack v c.requires.begins some u
    (all-swept b c.args.family c.args.old.pack v c.requires.begins some c.args.lanes lanes.3 u c.sweep_all.ensures.passed)
    d.result d.new.seat.seat.me.0 d.ensures.view

pub clean-requires-clause-owed : goal.clean-requires-clause-owed
clean-requires-clause-owed g c =
    let lanes = c.requires.lanes in let v = c.args.seat.now.seat.me.0 in
    let some = some-lanes c.args.lanes v lanes.2 lanes.3 in let b = c.args.held.now.books in
    let u = c.sweep_all.new.seat.seat.me.0 in let d = c.drop_ref-left in
    left-owed b c.args.family c.args.old.pack v c.requires.begins some u
    (all-swept b c.args.family c.args.old.pack v c.requires.begins some c.args.lanes lanes.3 u c.sweep_all.ensures.passed)
    d.result d.new.seat.seat.me.0 d.ensures.view

pub returns-clause-reclaimed : goal.returns-clause-reclaimed
returns-clause-reclaimed g c =
    let lanes = c.requires.lanes in let v = c.args.seat.now.seat.me.0 in
    let some = some-lanes c.args.lanes v lanes.2 lanes.3 in let b = c.args.held.now.books in
    let u = c.sweep_all.new.seat.seat.me.0 in let d = c.drop_ref-left in
    left-reclaimed b c.args.family c.args.old.pack v c.requires.begins some u
    (all-swept b c.args.family c.args.old.pack v c.requires.begins some c.args.lanes lanes.3 u c.sweep_all.ensures.passed)
    d.result d.new.seat.seat.me.0 d.ensures.view c.clean.new.held.books c.clean.new.seat.seat.me.0 c.clean.ensures.cleaned
