use Rattle.sv_store.proofs.FrameLaws.{dropped-rests}
use Rattle.sv_store.proofs.store.Store.drop_family.Goals as goal

pub invariant_of-self : goal.invariant_of-self
invariant_of-self c =
    let k = c.drop_family in
    dropped-rests c.self.inside.state k.new.self c.self.inside.cells c.self.invariant k.ensures.follows.sound 0 k.result k.ensures.dropped k.ensures.kept
