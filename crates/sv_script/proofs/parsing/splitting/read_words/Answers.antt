use Rattle.std.proofs.Common.{length, filter, nat_lt, ap, ◌∙◌, rules, tests}
use Rattle.std.proofs.lemmas.Iterator.Consumers.{YieldsList-at, YieldsList-end}
use Rattle.std.proofs.lemmas.Iterator.Splits.{YieldsList-from_slice_split}
use Rattle.sv_script.specs.Words.{is_blank, words_of}
use Rattle.sv_script.proofs.parsing.splitting.read_words.Goals as goal

pub returns : goal.returns
unfolding words_of
returns c =
    let at = c.loop-piece in
    let t = YieldsList-end (YieldsList-at c.into_iter-piece-iterator.ensures.into_iter_gives
    (YieldsList-from_slice_split _ is_blank c.args.line.now c.split-piece-items.ensures.rest
    c.split-piece-items.ensures.done c.split-piece-items.ensures.closure (λ x r q k. search (rules, tests))))
    at.yielded _ at.yielded_by _ _ c.in-None.is c.next.ensures.steps in
    at.invariant ∙ ap (filter (λ piece. nat_lt 0 (length piece))) t.0
