use Rattle.sv_store.proofs.FrameLaws.{opened-rests}
use Rattle.sv_store.proofs.store.Store.open_family.Goals as goal

pub invariant_of-self : goal.invariant_of-self
invariant_of-self c =
    let k = c.open_family in
    opened-rests c.self.inside.state k.new.self c.self.inside.cells c.self.invariant k.ensures.follows.sound 0 k.result k.ensures.opened k.ensures.kept
