-- Memory may be wanted for any text.
use Rattle.std.proofs.Common.{sym, subst}
use Rattle.sv_run.specs.declared.outcomes.Ended.{Ended}
use Rattle.sv_run.specs.Ends.{Follows}
use Rattle.sv_run.proofs.Sending.{follows-memory}
use Rattle.sv_run.proofs.top.tell.Goals as goal

pub returns-in-Err-clause-ends : goal.returns-in-Err-clause-ends
returns-in-Err-clause-ends g c = λ i d follows.
    c.send-in-Err.ensures.ends i d (subst (λ (e : Ended). Follows i d e.done e.status) (sym c.without_memory.ensures) (follows-memory i d c.args.ended.done c.args.ended.status follows))
