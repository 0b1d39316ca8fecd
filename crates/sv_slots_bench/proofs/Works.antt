-- Works that are ready, one by one.
use Rattle.std.proofs.Common.{List, [], arith, length, length-append, subst, suc, sym, zero, ℕ, ◌++◌, ◌+◌, ◌<◌, ◌∙◌, ◌∷◌, ◌≡◌, ◌≤◌, ap}
use Rattle.std.proofs.lemmas.List.Elements.{All-append}
use Rattle.std.specs.Prelude.{All}
use Rattle.atomic_table.specs.Seated.{TableId}
use Rattle.sv_slots_bench.specs.Ready.{IsReady}
use Rattle.sv_slots_bench.specs.declared.lanes.Work.{Work}

pub ready_push : (t : TableId) (works all : List Work) (w : Work) → All (IsReady t) works → IsReady t w
    → all ≡ works ++ w ∷ [] → All (IsReady t) all
ready_push t works all w h it e = subst (All (IsReady t)) (sym e)
    (All-append (IsReady t) works (w ∷ []) h one)
  where
    one : All (IsReady t) (w ∷ [])
    one zero d l = it
    one (suc k) d l = absurd (omega (arith, l))

pub fewer : {A : Type 0} (l all : List A) (x : A) → all ≡ l ++ x ∷ [] → length all ≤ 4 → length l < 4
fewer l all x e few = omega (arith, ap (λ z. length z) e, length-append l (x ∷ []), few)
