use Rattle.std.proofs.Common.{◌≡◌, length, Some, refl, sym, ap, ◌∙◌, arith}
use Rattle.std.specs.Prelude.{slice_get, slice_set}
use Rattle.std.proofs.lemmas.Option.{slice_get_read}
use Rattle.sv_state.proofs.installs.put_current.Goals as goal

pub returns-clause-tops : goal.returns-clause-tops
returns-clause-tops c serial place within is =
    λ i. slice_set c.args.tops.now.items (c.family.view_is i) (c.top_of.ensures serial place within is i)

pub returns-clause-old : goal.returns-clause-old
returns-clause-old c =
    let h = c.args.held.now.items in
    let f : c.family.inside.0 ≡ c.args.family = c.family.view_is in
    ap (slice_get h) (sym f)
    ∙ slice_get_read h (length h) c.family.inside.0 c.index_mut-slot.result.now refl (omega (arith, f, c.requires.within, c.requires.paired)) c.index_mut-slot.ensures.value
    ∙ ap Some (sym c.replace.ensures.value)
