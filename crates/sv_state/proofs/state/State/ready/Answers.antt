use Rattle.std.proofs.Common.{ℕ, subst}
use Rattle.sv_state.specs.Seen.{StateSeen}
use Rattle.sv_model.specs.Numbers.{IsReady}
use Rattle.sv_model.specs.Refusals.{RefusesExactly}
use Rattle.sv_files.specs.Calls.{disabled}
use Rattle.sv_state.proofs.state.State.ready.Goals as goal

pub returns-clause-none : goal.returns-clause-none
returns-clause-none c =
    subst (λ (z : StateSeen). ((n : ℕ) → IsReady z.books.files n → ⊥) → RefusesExactly (disabled z.books.files) c.ready.result) c.self.view_is c.ready.ensures.none
