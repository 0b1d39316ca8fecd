use Rattle.std.proofs.Common.{◌≡◌, ◌<◌, length, Some, true, false, arith, sym, ap, ◌∙◌}
use Rattle.sv_model.specs.Journal.{same_key}
use Rattle.sv_model.proofs.SearchLaws.{found, found_other, found_past}
use Rattle.sv_model.proofs.searches.find_upto.Goals as goal

pub returns-then-at-items : goal.returns-then-at-items
returns-then-at-items g c = λ up.
    sym (found_past g.T.Ranked.key g.T.Ranked.rank c.args.key.now c.args.upto c.args.items.now
    (λ k e lt. (c.ahead_of-at.ensures.parted up).0 k e (omega arith) (omega arith)))

pub returns-then-eq : goal.returns-then-eq
returns-then-eq g c = λ up.
    let parts = c.ahead_of-at.ensures.parted up in
    let item = c.index-items-at.result in
    let here : c.ahead_of-at.result < length c.args.items.now = omega arith in
    let same : same_key c.args.key.now (g.T.Ranked.key item) ≡ true = ap (same_key c.args.key.now) (sym c.key.ensures) ∙ sym c.eq.ensures ∙ c.if-eq.true in
    ap Some c.index-items-at.is
    ∙ sym (found g.T.Ranked.key g.T.Ranked.rank c.args.key.now c.args.upto c.args.items.now c.ahead_of-at.result item here
    (λ k e lt. parts.0 k e (omega arith) lt) (parts.1 c.ahead_of-at.result item (omega arith) here)
    (ap (λ i. same_key c.args.key.now (g.T.Ranked.key i)) (sym c.index-items-at.is) ∙ same))

pub returns-else-eq : goal.returns-else-eq
returns-else-eq g c = λ up.
    let parts = c.ahead_of-at.ensures.parted up in
    let item = c.index-items-at.result in
    let here : c.ahead_of-at.result < length c.args.items.now = omega arith in
    let other : same_key c.args.key.now (g.T.Ranked.key item) ≡ false = ap (same_key c.args.key.now) (sym c.key.ensures) ∙ sym c.eq.ensures ∙ c.if-eq.false in
    sym (found_other g.T.Ranked.key g.T.Ranked.rank c.args.key.now c.args.upto c.args.items.now c.ahead_of-at.result item up here
    (λ k e lt. parts.0 k e (omega arith) lt) (parts.1 c.ahead_of-at.result item (omega arith) here)
    (ap (λ i. same_key c.args.key.now (g.T.Ranked.key i)) (sym c.index-items-at.is) ∙ other))
