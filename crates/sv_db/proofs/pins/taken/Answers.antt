use Rattle.std.proofs.Common.{ap, arith, get_or, slice_set, subst, sym, ◌∙◌, ◌≡◌}
use Rattle.sv_db.proofs.Pinned.{nothing-taken}
use Rattle.sv_db.proofs.pins.taken.Goals as goal

pub returns-clause-none : goal.returns-clause-none
returns-clause-none c = λ none.
    let h = nothing-taken c.args.pins.now c.args.number c.take.result (omega (arith, c.if-number.false, c.requires))
    (subst (λ z. z ≡ get_or c.args.pins.now c.args.number z) (sym (c.take.ensures.value ∙ sym c.index-pins-number.is))
    c.index-pins-number.is) none in
    (h.0, ap (slice_set c.args.pins.now c.args.number) c.take.ensures.after ∙ h.1)
