use Rattle.std.proofs.Common.{◌≡◌, ◌+◌, ◌++◌, ◌∷◌, [], ℕ, List, replicate, Option, None, ap, ◌∙◌}
use Rattle.std.proofs.lemmas.List.{replicate-append-replicate}
use Rattle.sv_model.specs.Cells.{Cell}
use Rattle.sv_store.proofs.cells.Cells.new.Goals as goal

push-none : (n : ℕ) → replicate {A = Option Cell} n None ++ None ∷ [] ≡ replicate (n + 1) None
push-none n = replicate-append-replicate n 1 None

pub loop-done-preserved : goal.loop-done-preserved
loop-done-preserved c = c.in_ok-push.ensures.items ∙ ap (λ (l : List (Option Cell)). l ++ None ∷ []) c.loop-done.invariant ∙ push-none c.loop-done.done
