-- How often a number stands in a list that rises.
use Rattle.std.proofs.Common.{List, Some, [], ap, arith, refl, suc, sym, zero, ℕ, ◌<◌, ◌∷◌, ◌≡◌, ◌≤◌}
use mathlib.Core.Logic.{dite}
use native.Mathlib.Decide.{ℕ_discrete}
use Rattle.sv_model.specs.Lists.{Distinct, In, times}
use Rattle.sv_model.proofs.AscendingLists.{Rises}
use Rattle.sv_model.proofs.Lists.{in_times, same-le, same_other}

pub no_more : (k : ℕ) → (0 < k → ⊥) → k ≡ 0
no_more zero h = refl
no_more (suc k) h = absurd (h (omega arith))

pub rises-times : (xs : List ℕ) → Rises xs → (n : ℕ) → times n xs ≤ 1
rises-times [] r n = omega arith
rises-times (x ∷ xs) r n = dite (ℕ_discrete n x)
    (λ e. let none : times n xs ≡ 0 = no_more (times n xs) (λ h. omega (arith, r.0 n (in_times n xs h), e)) in
    omega (arith, none, same-le n x))
    (λ ne. omega (arith, same_other n x ne, rises-times xs r.1 n))

pub distinct-times : (xs : List ℕ) → Distinct xs → (n : ℕ) → times n xs ≤ 1
distinct-times [] d n = omega arith
distinct-times (x ∷ xs) d n = dite (ℕ_discrete n x)
    (λ e. let none : times n xs ≡ 0 = no_more (times n xs) (λ h. twice (in_times n xs h) e) in
    omega (arith, none, same-le n x))
    (λ ne. omega (arith, same_other n x ne, distinct-times xs (λ i j y p q. back i j (d (suc i) (suc j) y p q)) n))
  where
    twice : In n xs → n ≡ x → ⊥
    twice i e = let q : 0 ≡ suc i.at = d 0 (suc i.at) n (ap Some (sym e)) i.is in omega (arith, q)

    back : (i j : ℕ) → suc i ≡ suc j → i ≡ j
    back i j e = omega (arith, e)
