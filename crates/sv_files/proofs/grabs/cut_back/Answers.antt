use Rattle.std.proofs.Common.{◌∷◌, [], length, arith, ap, length-append}
use Rattle.sv_files.proofs.StrayLaws.{take-front}
use Rattle.sv_files.proofs.grabs.cut_back.Goals as goal

pub loop-numbers-preserved : goal.loop-numbers-preserved
loop-numbers-preserved c =
    let last = c.take_back.ensures in (
      omega (arith, c.loop-numbers-test.true, ap length c.as_slice.ensures, ap length last.1, length-append c.take_back.new.self (last.0 ∷ [])),
      take-front c.args.numbers.now c.take_back.new.self last.0 c.loop-numbers.numbers last.1 c.loop-numbers.invariant.1,
    )
