use Rattle.std.proofs.Common.{◌∙◌, ◌+◌, ◌++◌, ◌∷◌, [], ap, sym, subst, arith}
use Rattle.sv_model.specs.Counts.{count_of}
use Rattle.sv_model.proofs.CountLoops.{Lowering, lowering_held, lowering_given, lowering_kept, lowering_end}
use Rattle.sv_model.proofs.raising.lower.Goals as goal
use Rattle.sv_model.proofs.raising.lower.Goals.{then-left-eq0, else-left-eq0}

pub down-requires : goal.down-requires
down-requires g c = lowering_held _ _ _ _ _ _ c.requires.counted (omega arith) c.number-number.ensures c.loop-at.invariant.lowering

pub loop-at-preserved : goal.loop-at-preserved
loop-at-preserved g c =
    let xs = g.T.Holder.numbers c.args.holder.now in
    elim c.if-left-eq0.branch [
      | then-left-eq0 w ↦ record {
        lowering =
            subst (λ given. Lowering (count_of c.args.counts.now) (count_of c.down.new.self) xs (c.loop-at.at + 1) given)
            (sym (ap g.T.Holder.handed w.freed-is ∙ w.give.ensures.given ∙ ap (λ x. g.T.Holder.handed c.loop-at.freed ++ x ∷ []) (sym c.number-number.ensures)))
            (lowering_given _ _ _ _ _ _ _ c.requires.counted (omega arith) c.number-number.ensures c.loop-at.invariant.lowering c.down.ensures (sym c.count-left.ensures ∙ w.if-left-eq0.true));
        enough = let e = ap g.T.Holder.room w.freed-is in let f = w.give.ensures.room in let h = c.loop-at.invariant.enough in omega arith;
      }
      | else-left-eq0 w ↦ record {
        lowering =
            subst (λ given. Lowering (count_of c.args.counts.now) (count_of c.down.new.self) xs (c.loop-at.at + 1) given)
            (sym (ap g.T.Holder.handed w.freed-is))
            (lowering_kept _ _ _ _ _ _ _ c.requires.counted (omega arith) c.number-number.ensures c.loop-at.invariant.lowering c.down.ensures (omega arith));
        enough = let e = ap g.T.Holder.room w.freed-is in let h = c.loop-at.invariant.enough in omega arith;
      }
    ]

pub returns-clause-given : goal.returns-clause-given
returns-clause-given g c = (lowering_end _ _ _ _ _ c.requires.counted (omega arith) c.loop-at.invariant.lowering).chosen
