use Rattle.std.proofs.Common.{List, subst, sym, ◌∙◌}
use Rattle.sv_borrows.specs.Parts.{body_of}
use Rattle.sv_model.proofs.Entries.{get_none}
use Rattle.sv_model.specs.Lists.{Every}
use Rattle.sv_rule.specs.Fits.{BodyFits}
use Rattle.sv_rule.specs.Views.{Bodied}
use Rattle.sv_slots.specs.Installs.{installed}
use Rattle.sv_slots.specs.Seats.{bodied}
use Rattle.sv_installs.proofs.installs.make_current.Goals as goal

pub make_current-requires-clause-olds : goal.make_current-requires-clause-olds
make_current-requires-clause-olds g c =
    subst (λ (l : List Bodied). Every (BodyFits c.args.held.now.books) l) (sym c.requires.picks.1)
    (λ i x e. absurd (get_none i x e))

pub returns-clause-installed : goal.returns-clause-installed
returns-clause-installed g c =
    let k = c.make_current in let v = c.args.seat.now.seat.me.0 in (
      k.result,
      k.ensures.was,
      k.ensures.view
          ∙ (λ i. installed c.args.family (bodied body_of c.args.new.now) c.args.held.now.books (c.requires.picks.0 i)
          (c.requires.picks.1 i) k.result v),
    )
