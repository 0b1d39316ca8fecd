use Rattle.std.proofs.Common.{◌≡◌, ◌+◌, true, false, sym, ◌∙◌, subst}
use Rattle.sv_state.specs.Follows.{Follows}
use Rattle.sv_state.specs.Seen.{StateSeen}
use Rattle.sv_store.specs.Ending.{EndsCurrents}
use Rattle.sv_store.specs.Standing.{IsAlone}
use Rattle.sv_store.proofs.ClosingSteps.{none-there, one-ended}
use Rattle.sv_store.proofs.StandLaws.{follows-through}
use Rattle.sv_store.proofs.closes.end_currents.Goals as goal
use Rattle.sv_store.proofs.closes.end_currents.Goals.{then-has_current, else-has_current}

pub loop-index-preserved : goal.loop-index-preserved
loop-index-preserved c =
    let a = c.args.state.now.books in
    let m = c.loop-index.state.books in
    let n = c.loop-index.index in
    let h = c.loop-index.invariant in
    elim c.if-has_current.branch [
      | then-has_current w ↦
          let e = w.end_current.ensures in
          subst (λ (z : StateSeen). IsAlone z.books × EndsCurrents a z.books (n + 1) × Follows a z.books) (sym w.state-is)
          (e.alone, one-ended a m n h.1 w.end_current.new.state.books e.ends, follows-through a m w.end_current.new.state.books h.2 e.follows)
      | else-has_current w ↦
          subst (λ (z : StateSeen). IsAlone z.books × EndsCurrents a z.books (n + 1) × Follows a z.books) (sym w.state-is)
          (h.0, none-there a m n h.1 c.requires.currents (λ at. let z : false ≡ true = sym w.if-has_current.false ∙ c.has_current.ensures.1 at in absurd (cc)), h.2)
    ]
