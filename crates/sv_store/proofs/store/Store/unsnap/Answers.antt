use Rattle.sv_store.proofs.FrameLaws.{unsnapped-rests}
use Rattle.sv_store.proofs.store.Store.unsnap.Goals as goal

pub invariant_of-self : goal.invariant_of-self
invariant_of-self c =
    let k = c.unsnap in
    unsnapped-rests c.self.inside.state k.new.self c.self.inside.cells c.self.invariant k.ensures.follows.sound c.args.id k.result k.ensures.ended k.ensures.kept
