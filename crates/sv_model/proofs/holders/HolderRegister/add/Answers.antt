use Rattle.std.proofs.Common.{◌∙◌, ◌++◌, ◌∷◌, [], length, ap, arith}
use Rattle.sv_model.proofs.HolderLaws.{count-le, counted-added}
use Rattle.sv_model.proofs.holders.HolderRegister.add.Goals as goal

pub raise-requires : goal.raise-requires
raise-requires g c = λ n.
    let most = count-le g.T.Holder.numbers g.T.Holder.lives g.T.Holder.sound c.self.inside.records.items c.self.inside.counts n g.met.T.Holder.seldom c.self.invariant in
    let some = g.met.T.Holder.seldom c.args.holder n c.requires.sound in
    omega arith

pub invariant_of-self-2 : goal.invariant_of-self-2
invariant_of-self-2 g c =
    counted-added g.T.Holder.numbers g.T.Holder.lives g.T.Holder.sound c.self.inside.records.items _ c.self.inside.counts c.raise.new.counts c.args.holder
    (c.push_reserved.ensures.items ∙ ap (λ l. l ++ c.args.holder ∷ []) c.reserve.ensures.items)
    c.self.invariant c.requires.live c.requires.sound (let n = ap length c.self.view_is in let few = c.requires.few in omega arith) c.in_ok-raise.ensures.ok
