use Rattle.std.proofs.Common.{◌≡◌, ◌+◌, ◌/◌, ◌%◌, [], ◌∷◌, ◌++◌, length, length-append, sym, ap, ◌∙◌, arith, rules}
use mathlib.Core.List.{append_assoc}
use Rattle.sv_model.specs.Files.{padded}
use Rattle.sv_dir.proofs.SpelledNumbers.{padded_one, padded_step, room_for_last}
use Rattle.sv_dir.proofs.names.+push_digits.Goals as goal

pub push_digit-requires-clause-room : goal.push_digit-requires-clause-room
push_digit-requires-clause-room t c =
    let one : padded c.args.least c.args.number ≡ (48 + c.args.number % 10) ∷ [] = padded_one c.args.least c.args.number (omega arith) (omega arith) in
    omega (arith, ap length one)

pub returns-then-least-le1 : goal.returns-then-least-le1
returns-then-least-le1 t c =
    let one : padded c.args.least c.args.number ≡ (48 + c.args.number % 10) ∷ [] = padded_one c.args.least c.args.number (omega arith) (omega arith) in
    cc

pub push_digits-requires : goal.push_digits-requires
push_digits-requires t c =
    let less = room_for_last c.args.least c.saturating_sub.result c.args.number c.saturating_sub.ensures (omega arith) c.else-number-lt10.either in
    (search rules, omega (arith, less))

pub push_digit-requires-2-clause-room : goal.push_digit-requires-2-clause-room
push_digit-requires-2-clause-room t c =
    let less = room_for_last c.args.least c.saturating_sub.result c.args.number c.saturating_sub.ensures (omega arith) c.else-number-lt10.either in
    let grown = ap length c.push_digits.ensures ∙ length-append c.args.name.now.bytes (padded c.saturating_sub.result (c.args.number / 10)) in
    omega (arith, less, grown)

pub returns : goal.returns
returns t c =
    let step = padded_step c.args.least c.saturating_sub.result c.args.number c.saturating_sub.ensures (omega arith) c.else-number-lt10.either in
    c.push_digit-2.ensures
    ∙ ap (λ s. s ++ ((48 + c.args.number % 10) ∷ [])) c.push_digits.ensures
    ∙ append_assoc c.args.name.now.bytes (padded c.saturating_sub.result (c.args.number / 10)) ((48 + c.args.number % 10) ∷ [])
    ∙ ap (λ s. c.args.name.now.bytes ++ s) (sym step)
