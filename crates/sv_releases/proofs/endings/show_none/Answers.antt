use Rattle.std.proofs.Common.{List, subst, sym, ◌∙◌}
use Rattle.sv_model.proofs.Entries.{get_none}
use Rattle.sv_model.specs.Lists.{Every}
use Rattle.sv_rule.specs.Fits.{BodyFits}
use Rattle.sv_rule.specs.Views.{Bodied}
use Rattle.sv_slots.specs.Installs.{retired}
use Rattle.sv_releases.proofs.endings.show_none.Goals as goal

pub no_current-requires-clause-olds : goal.no_current-requires-clause-olds
no_current-requires-clause-olds g c =
    subst (λ (l : List Bodied). Every (BodyFits c.args.held.now.books) l) (sym c.requires.picks.1)
    (λ i x e. absurd (get_none i x e))

pub returns-clause-ended : goal.returns-clause-ended
returns-clause-ended g c =
    let k = c.no_current in let v = c.args.seat.now.seat.me.0 in (
      k.result,
      k.ensures.was,
      k.ensures.view
          ∙ (λ i. retired c.args.family c.args.held.now.books (c.requires.picks.0 i) (c.requires.picks.1 i) k.result v),
    )
