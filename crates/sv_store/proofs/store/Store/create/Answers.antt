use Rattle.std.proofs.Common.{sym, subst, List, Option}
use Rattle.sv_model.specs.Cells.{Cell}
use Rattle.sv_store.specs.Standing.{Rests}
use Rattle.sv_store.proofs.CallLaws.{made-rests}
use Rattle.sv_store.proofs.store.Store.create.Goals as goal

pub invariant_of-self-2 : goal.invariant_of-self-2
invariant_of-self-2 c =
    let b = c.create.new.self.books in
    subst (λ (l : List (Option Cell)). Rests b l) (sym c.fill.ensures)
    (made-rests c.self.inside.state.books b c.self.inside.cells c.self.invariant c.create.ensures.follows.sound _ c.in-Ok.ensures.made c.in-Ok.install c.in-Ok.ensures.tells)
