use Rattle.std.proofs.Common.{arith, ◌-◌}
use Rattle.sv_slots.proofs.openings.first_word.Goals as goal

pub returns-then-index-families : goal.returns-then-index-families
returns-then-index-families c = record {
  number = λ f near e. omega (arith, e);
  reference = λ f near e. omega (arith, e, near, c.requires);
  other = λ a b. absurd (a (c.args.index - 66) (omega arith) (omega arith));
}

pub returns-then-index-families-2 : goal.returns-then-index-families-2
returns-then-index-families-2 c = record {
  number = λ f near e. omega (arith, e, near, c.requires);
  reference = λ f near e. omega (arith, e);
  other = λ a b. absurd (b (c.args.index - 83) (omega arith) (omega arith));
}
