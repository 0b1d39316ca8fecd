use Rattle.std.proofs.Common.{◌≡◌, sym, ap, ◌∙◌, arith}
use Rattle.std.specs.Str.Parse.{digits_value}
use Rattle.sv_dir.specs.TableNames.{is_spelled}
use Rattle.sv_dir.proofs.ReadBack.{stripped, foreign_ending, foreign_stem, foreign_zero, number_of_stem, parse-spelled, file_name-number_named}
use Rattle.sv_dir.proofs.names.parse_name.Goals as goal

pub returns-in_default-clause-number : goal.returns-in_default-clause-number
returns-in_default-clause-number c = sym (foreign_ending c.args.name.now c.in_default.ensures.cases)

pub returns-then-not-is_spelled-clause-number : goal.returns-then-not-is_spelled-clause-number
returns-then-not-is_spelled-clause-number c =
    let other = ap is_spelled (sym c.as_bytes.ensures.value) ∙ sym c.is_spelled.ensures ∙ c.if-not-is_spelled.true in
    sym (foreign_stem c.args.name.now c.in-Some.digits.now (stripped c.args.name.now c.in-Some.digits.now c.in-Some.ensures.cases) other)

pub returns-in-Ok-eq0-clause-number : goal.returns-in-Ok-eq0-clause-number
returns-in-Ok-eq0-clause-number c =
    let spelled = ap is_spelled (sym c.as_bytes.ensures.value) ∙ sym c.is_spelled.ensures ∙ c.if-not-is_spelled.false in
    let read = parse-spelled c.in-Some.digits.now c.parse.result spelled c.parse.ensures.value.0 in
    let none : digits_value 10 c.in-Some.digits.now ≡ 0 = cc in
    sym (foreign_zero c.args.name.now c.in-Some.digits.now (stripped c.args.name.now c.in-Some.digits.now c.in-Some.ensures.cases) spelled none)

pub returns-in-Ok-clause-number : goal.returns-in-Ok-clause-number
returns-in-Ok-clause-number c =
    let spelled = ap is_spelled (sym c.as_bytes.ensures.value) ∙ sym c.is_spelled.ensures ∙ c.if-not-is_spelled.false in
    let read = parse-spelled c.in-Some.digits.now c.parse.result spelled c.parse.ensures.value.0 in
    let value : digits_value 10 c.in-Some.digits.now ≡ c.in-Ok.number = cc in
    sym (number_of_stem c.args.name.now c.in-Some.digits.now c.in-Ok.number (stripped c.args.name.now c.in-Some.digits.now c.in-Some.ensures.cases) spelled value (omega (arith, c.in-Ok.number-test.1)))

pub returns-in-Ok-clause-spelled : goal.returns-in-Ok-clause-spelled
returns-in-Ok-clause-spelled c = file_name-number_named c.args.name.now c.in-Ok.number (sym (returns-in-Ok-clause-number c))

pub returns-in-Err-clause-number : goal.returns-in-Err-clause-number
returns-in-Err-clause-number c =
    let spelled = ap is_spelled (sym c.as_bytes.ensures.value) ∙ sym c.is_spelled.ensures ∙ c.if-not-is_spelled.false in
    let read = parse-spelled c.in-Some.digits.now c.parse.result spelled c.parse.ensures.value.0 in
    absurd (cc)
