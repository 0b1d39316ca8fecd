use Rattle.std.proofs.Common.{ap}
use Rattle.sv_state.specs.Seen.{StateSeen}
use Rattle.sv_store.proofs.FrameLaws.{files-rests}
use Rattle.sv_store.proofs.StillLaws.{held-still}
use Rattle.sv_store.proofs.store.Store.unhold.Goals as goal

pub invariant_of-self : goal.invariant_of-self
invariant_of-self c =
    let k = c.unhold in
    files-rests c.self.inside.state.books k.new.self.books c.self.inside.cells c.self.invariant k.ensures.follows.sound (ap (λ (z : StateSeen). z.books) k.ensures.rest)
    (held-still c.self.inside.state k.new.self 0 _ k.result k.ensures.ended k.ensures.kept c.self.invariant.still)
