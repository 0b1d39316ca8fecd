use Rattle.std.proofs.Common.{◌≡◌, ◌<◌, length, sym, ◌∙◌, arith}
use Rattle.std.proofs.lemmas.Bool.Decides.{nat_tests}
use Rattle.sv_script.proofs.NumberLemmas.{number-none, number-long, number-goes_on, number-stops, number-ends}
use Rattle.sv_script.proofs.parsing.decimals.number_of.Goals as goal

pub returns-then-is_empty : goal.returns-then-is_empty
returns-then-is_empty c =
    let none : length c.args.word.now ≡ 0 = grind (arith, nat_tests) in
    sym (number-none c.args.word.now none)

pub returns-then-word-gt-MAX_DIGITS : goal.returns-then-word-gt-MAX_DIGITS
returns-then-word-gt-MAX_DIGITS c = sym (number-long c.args.word.now c.if-word-gt-MAX_DIGITS.true)

pub returns-in_err-value : goal.returns-in_err-value
returns-in_err-value c =
    let word = c.args.word.now in
    let some : 0 < length word = grind (arith, nat_tests) in
    let at = c.loop-byte in
    c.from_residual.ensures
    ∙ number-stops word some (omega arith) at.value at.byte-index (omega arith) at.invariant c.in_err-value.ensures

pub loop-byte-preserved : goal.loop-byte-preserved
loop-byte-preserved c =
    let at = c.loop-byte in
    number-goes_on c.args.word.now at.value at.byte-index (omega arith) at.invariant
    c.in_ok-value.value c.in_ok-value.ensures

pub returns : goal.returns
returns c =
    let word = c.args.word.now in
    let some : 0 < length word = grind (arith, nat_tests) in
    let at = c.loop-byte in
    number-ends word some (omega arith) at.value at.byte-index (omega arith) at.invariant
