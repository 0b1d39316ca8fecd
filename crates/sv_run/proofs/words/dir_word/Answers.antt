-- Other words name no path.
use Rattle.std.proofs.Common.{arith, ◌∙◌}
use Rattle.std.specs.Prelude.{string_bytes}
use borrow.Author.Tests.{ltb-true, ltb-false}
use Rattle.std.proofs.lemmas.Bool.{false≢true}
use Rattle.sv_run.proofs.Wording.{few_words, many_words, other_two, other_three, other_option}
use Rattle.sv_run.proofs.words.dir_word.Goals as goal
use Rattle.sv_run.proofs.words.dir_word.Goals.{in_default-via-then-words-lt2, in_default-via-in-len2+else-is_run, in_default-via-in-len3+then-is_run-2+else-is_option, in_default-via-in-len3+else-is_run-2, in_default-via-else-words-lt2+else-words-lt3+else-words-lt4}

pub returns-in_default : goal.returns-in_default
returns-in_default c = elim c.in_default.branch [
  | in_default-via-then-words-lt2 w ↦ few_words string_bytes c.args.words.now (omega (arith, ltb-true))
  | in_default-via-in-len2+else-is_run w ↦
      other_two string_bytes c.args.words.now w.run-item.result (omega arith) w.run-item.is (λ e. false≢true (w.if-is_run.ensures.1 (w.as_str.ensures.value ∙ e)))
  | in_default-via-in-len3+then-is_run-2+else-is_option w ↦
      other_option string_bytes c.args.words.now w.option-item.result (omega arith) w.option-item.is (λ e. false≢true (w.if-is_option.ensures.1 (w.as_str-then-is_run-2.ensures.value ∙ e)))
  | in_default-via-in-len3+else-is_run-2 w ↦
      other_three string_bytes c.args.words.now w.run-item-then-words-lt4.result (omega arith) w.run-item-then-words-lt4.is (λ e. false≢true (w.if-is_run-2.ensures.1 (w.as_str-then-words-lt4.ensures.value ∙ e)))
  | in_default-via-else-words-lt2+else-words-lt3+else-words-lt4 w ↦ many_words string_bytes c.args.words.now (omega (arith, ltb-false))
]
