use Rattle.std.proofs.Common.{ap, arith, ◌∙◌}
use Rattle.std.specs.Prelude.{length}
use Rattle.sv_model.specs.Lists.{same, total}
use Rattle.sv_puts.proofs.Putting.{own-currents, taken-desk}
use Rattle.sv_releases.proofs.Releasing.{ends-of}
use Rattle.sv_rule.specs.Views.{LaneView}
use Rattle.sv_releases.proofs.releases.release.Goals as goal

pub release_locked-answer-requires-clause-desk : goal.release_locked-answer-requires-clause-desk
release_locked-answer-requires-clause-desk g c =
    let t = c.take_state-held in (
      taken-desk c.args.seat.now.seat.me.0 c.requires.free.0 t.result.books t.new.seat.seat.me.0 t.ensures.took
          t.ensures.told,
      ap (λ (z : LaneView). z.owes) t.ensures.took ∙ c.requires.free.1,
    )

pub release_locked-answer-requires-clause-current : goal.release_locked-answer-requires-clause-current
release_locked-answer-requires-clause-current g c =
    let t = c.take_state-held in
    own-currents c.args.seat.now.seat.me.0 c.requires.free.0 t.result.books t.new.seat.seat.me.0 t.ensures.took
    t.ensures.told c.args.lane c.requires.lane.1 c.args.name.now

pub release_locked-answer-requires-clause-hand : goal.release_locked-answer-requires-clause-hand
release_locked-answer-requires-clause-hand g c =
    let t = c.take_state-held in (
      ap (λ (z : LaneView). total (same 0) z.hand) t.ensures.took ∙ c.requires.hand,
      omega (arith, ap (λ (z : LaneView). length z.hand) t.ensures.took, c.requires.free.0.few),
    )

pub give_state-requires-clause-lock : goal.give_state-requires-clause-lock
give_state-requires-clause-lock g c =
    let t = c.take_state-held in let k = c.release_locked-answer in let v = c.args.seat.now.seat.me.0 in
    let both = ends-of v c.requires.free.0 t.result.books t.new.seat.seat.me.0 t.ensures.took t.ensures.told
    c.args.name.now k.new.held.books k.new.seat.seat.me.0 c.args.lane c.requires.lane.1 k.result k.ensures.releases in
    both.0

pub returns-clause-releases : goal.returns-clause-releases
returns-clause-releases g c =
    let t = c.take_state-held in let k = c.release_locked-answer in let v = c.args.seat.now.seat.me.0 in
    let both = ends-of v c.requires.free.0 t.result.books t.new.seat.seat.me.0 t.ensures.took t.ensures.told
    c.args.name.now k.new.held.books k.new.seat.seat.me.0 c.args.lane c.requires.lane.1 k.result k.ensures.releases in
    both.1 c.give_state.new.seat.seat.me.0 c.give_state.ensures.gave
