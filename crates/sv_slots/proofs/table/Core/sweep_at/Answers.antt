use Rattle.std.proofs.Common.{rules}
use Rattle.sv_slots.proofs.InstallLaws.{sweep_carries, sweep_emptied}
use Rattle.sv_slots.proofs.table.Core.sweep_at.Goals as goal

pub exchange-requires : goal.exchange-requires
exchange-requires g c =
    let u = c.sweep_step-found in (
      search rules,
      (
        _,
        sweep_carries g.P.Parts.body _ c.args.family _ c.args.lane _ u.result c.slot_home_of-slot.result
            c.args.seat.now.me u.new.seat.me u.ensures.swept c.if-found-lt256.false c.slot_home_of-slot.ensures,
      ),
    )

pub pass_step-requires-2-clause-front : goal.pass_step-requires-2-clause-front
pass_step-requires-2-clause-front g c =
    let u = c.sweep_step-found in
    sweep_emptied g.P.Parts.body _ c.args.family _ c.args.lane _ u.result c.slot_home_of-slot.result c.args.seat.now.me
    u.new.seat.me u.ensures.swept c.if-found-lt256.false c.slot_home_of-slot.ensures c.exchange.new.seat.me
    c.exchange.ensures.3
