use Rattle.std.proofs.Common.{◌≡◌, Some, sym, subst}
use Rattle.std.specs.Prelude.{slice_get}
use Rattle.sv_model.specs.Numbers.{IsCaptured}
use Rattle.sv_state.specs.Seen.{StateSeen}
use Rattle.sv_state.specs.Views.{books_of}
use Rattle.sv_state.proofs.Endings.{one-captor}
use Rattle.sv_state.proofs.state.State.captor.Goals as goal

pub captor-requires : goal.captor-requires
captor-requires c =
    subst (λ (z : StateSeen). IsCaptured z.books.files.captured c.args.number) (sym c.self.view_is) (c.requires.family, c.requires.is)

pub returns : goal.returns
returns c family e =
    one-captor (books_of c.self.inside) c.self.invariant.sound c.captor.result family c.args.number c.captor.ensures
    (subst (λ (z : StateSeen). slice_get z.books.files.captured family ≡ Some (Some c.args.number)) (sym c.self.view_is) e)
