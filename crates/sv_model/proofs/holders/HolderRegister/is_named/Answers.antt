use Rattle.std.proofs.Common.{ltb-true, lt-ltb}
use Rattle.sv_model.proofs.HolderLaws.{named_is}
use Rattle.sv_model.proofs.holders.HolderRegister.is_named.Goals as goal

pub returns : goal.returns
returns g c =
    let is = named_is g.T.Holder.numbers g.T.Holder.lives g.T.Holder.sound c.self.inside.records.items c.args.self.now c.self.inside.counts c.args.number c.count.result c.self.view_is c.self.invariant c.count.ensures in
    (λ more. is.0 (ltb-true 0 c.count.result more), λ has. lt-ltb 0 c.count.result (is.1 has))
