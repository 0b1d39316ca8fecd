use Rattle.std.proofs.Common.{◌≡◌, ◌<◌, subst, arith}
use Rattle.sv_state.specs.Currents.{HasCurrentAt}
use Rattle.sv_store.specs.Seen.{StoreSeen}
use Rattle.sv_store.proofs.ReadParts.{held-place}
use Rattle.sv_store.proofs.store.Store.serial.Goals as goal

pub returns : goal.returns
returns c = subst (λ (z : StoreSeen). (at : HasCurrentAt z.books c.args.family) → c.pack.inside.serial ≡ at.serial) c.self.view_is
    (λ at.
    let r = c.current.ensures at in
    let low : r.it.place < 256 = held-place c.self.inside.state.books c.self.inside.cells c.self.invariant.stands c.args.family at c.current.result.now.pack c.current.result.now.body.value r in
    omega (arith, c.pack.view_is, c.pack.invariant, r.pack_is, low))
