use Rattle.std.proofs.Common.{◌≡◌, ◌<◌, ◌^◌, ◌++◌, length, length-append, ap, ◌∙◌, arith}
use Rattle.sv_model.specs.Files.{padded, suffix, file_name}
use Rattle.sv_dir.specs.TableNames.{number_named}
use Rattle.sv_dir.proofs.ReadBack.{length-padded-le, number_named-file_name, file_name-injective}
use Rattle.sv_dir.proofs.names.file_name.Goals as goal

pub push_digits-requires : goal.push_digits-requires
push_digits-requires c = omega (arith, length-padded-le c.number.inside.0 (omega arith), ap length c.new-name.ensures)

pub push_str-requires : goal.push_str-requires
push_str-requires c =
    let grown = ap length c.push_digits.ensures ∙ length-append c.new-name.result.bytes (padded 6 c.number.inside.0) in
    (omega arith, omega (arith, grown, length-padded-le c.number.inside.0 (omega arith), ap length c.new-name.ensures))

named : (c : goal.After-push_str) → c.push_str.new.self.bytes ≡ file_name c.number.inside.0
unfolding file_name
named c =
    c.push_str.ensures.bytes
    ∙ ap (λ s. s ++ suffix) (c.push_digits.ensures ∙ ap (λ s. s ++ padded 6 c.number.inside.0) c.new-name.ensures)

pub returns-clause-name : goal.returns-clause-name
returns-clause-name c = named c ∙ ap file_name c.number.view_is

pub returns-clause-read_back : goal.returns-clause-read_back
returns-clause-read_back c = λ some most. ap number_named (returns-clause-name c) ∙ number_named-file_name c.args.number some most

fits : (c : goal.After-push_str) → c.args.number < 2 ^ 64
fits c = let v : c.number.inside.0 ≡ c.args.number = c.number.view_is in omega arith

pub returns-clause-own : goal.returns-clause-own
returns-clause-own c = λ other small e. file_name-injective other c.args.number small (fits c) (e ∙ returns-clause-name c)
