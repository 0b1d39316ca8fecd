use Rattle.std.proofs.Common.{List, arith, rules, subst, sym, ℕ}
use Rattle.sv_slots.proofs.Begins.{first_words_of}
use Rattle.sv_slots.proofs.Rows.{IsRow, row-push}
use Rattle.sv_slots.specs.Openings.{IsFirstWord}
use Rattle.sv_slots.proofs.openings.first_words.Goals as goal

pub returns : goal.returns
returns c =
    first_words_of c.args.families c.loop-index.index c.loop-index.words.items c.requires (omega arith) c.loop-index.invariant.0
    c.loop-index.invariant.1

pub loop-index-preserved : goal.loop-index-preserved
loop-index-preserved c =
    let e = c.in_ok-push.ensures.items in
    (search rules, subst (λ (z : List ℕ). IsRow (IsFirstWord c.args.families) z) (sym e) (row-push (IsFirstWord c.args.families) c.loop-index.words.items c.first_word.result c.loop-index.invariant.1 (subst (λ (z : ℕ). IsFirstWord c.args.families z c.first_word.result) (sym c.loop-index.invariant.0) c.first_word.ensures)))
