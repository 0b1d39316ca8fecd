use Rattle.std.proofs.Common.{ap, arith, refl, ◌+◌, ◌∙◌, ◌≡◌}
use Rattle.sv_rests.proofs.Emptying.{bit, bit-most, rests-to-more, rests-to-none}
use Rattle.sv_rests.proofs.rests.rest_all.Goals.{else-rest_one, then-rest_one}
use Rattle.sv_rests.proofs.rests.rest_all.Goals as goal

pub loop-number-init : goal.loop-number-init
loop-number-init g c = ((refl, refl), rests-to-none c.args.seat.now.seat.me.0, omega arith)

pub loop-number-preserved : goal.loop-number-preserved
loop-number-preserved g c =
    let inv = c.loop-number.invariant in let one = c.rest_one in
    let n = c.loop-number.number in let k = c.loop-number.count in
    let next : c.if-rest_one.count ≡ k + bit one.result = elim c.if-rest_one.branch [
      | then-rest_one t ↦ omega (arith, t.count-is, ap bit t.if-rest_one.true)
      | else-rest_one t ↦ omega (arith, t.count-is, ap bit t.if-rest_one.false)
    ] in (
      (one.ensures.same.0 ∙ inv.0.0, one.ensures.same.1 ∙ inv.0.1),
      rests-to-more n k c.args.seat.now.seat.me.0 c.loop-number.seat.seat.me.0 inv.1 one.result one.new.seat.seat.me.0
          c.if-rest_one.count (c.requires.away n c.loop-number-test.true) one.ensures.gives_up next,
      omega (arith, next, bit-most one.result, inv.2),
    )
