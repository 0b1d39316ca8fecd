use Rattle.std.proofs.Common.{◌≡◌, ℕ, length, Some, refl, subst, arith}
use Rattle.std.specs.Prelude.{IsTrue, slice_get, ◌↔◌}
use Rattle.std.proofs.lemmas.Option.{slice_get_read}
use Rattle.sv_state.specs.Currents.{HasCurrentAt}
use Rattle.sv_state.specs.Seen.{StateSeen}
use Rattle.sv_state.specs.Views.{books_of}
use Rattle.sv_state.proofs.Closings.{has-current}
use Rattle.sv_state.proofs.state.State.has_current.Goals as goal

pub returns : goal.returns
returns c =
    let i = c.self.inside in
    let f = c.family.inside.0 in
    let at : slice_get i.tops.items f ≡ Some c.index.result.now = slice_get_read i.tops.items (length i.tops.items) f c.index.result.now refl (omega (arith, c.if-index-len.false, c.len.ensures, i.tops.ok.0)) c.index.ensures in
    subst (λ (z : StateSeen × ℕ). IsTrue c.is_some.result ↔ HasCurrentAt z.0.books z.1) (λ j. (c.self.view_is j, c.family.view_is j)) (has-current (books_of i) f c.index.result.now c.is_some.result at c.is_some.ensures)
