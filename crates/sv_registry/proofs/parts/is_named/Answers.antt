use Rattle.std.proofs.Common.{◌∙◌, sym, ap, arith, below_more}
use Rattle.std.specs.Option.{option_copied}
use Rattle.std.proofs.lemmas.Bool.{false≢true}
use Rattle.sv_registry.proofs.PartLemmas.{none_named, none_free, none_here}
use Rattle.sv_registry.proofs.parts.is_named.Goals as goal
use Rattle.sv_registry.proofs.parts.is_named.Goals.{in-Some+else-names, in_default}

pub loop-place-preserved : goal.loop-place-preserved
loop-place-preserved c = below_more _ _ c.loop-place.invariant (elim c.match-at.branch [
  | in-Some+else-names w ↦
      none_here c.args.part.now c.args.supers.now _ c.loop-place.place (option_copied c.at.result) w.in-Some.record.now c.places-place-end.ensures.placed (ap option_copied w.in-Some.is) c.at.ensures
      (λ named. false≢true (sym w.if-names.false ∙ w.names.ensures.1 named))
  | in_default w ↦ none_free c.args.part.now c.args.supers.now c.loop-place.place (option_copied c.at.result) (ap option_copied w.in_default.is) c.at.ensures
])

pub returns : goal.returns
returns c = (λ t. absurd (false≢true t), λ h. absurd (none_named c.args.part.now c.args.supers.now _ c.loop-place.place c.places-place-end.ensures.placed (omega (arith, c.places-place-end.ensures.count)) c.loop-place.invariant h))
