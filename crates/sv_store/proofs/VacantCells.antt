-- The numbers of a list, one after the other.
use Rattle.std.proofs.Common.{◌≡◌, ◌<◌, ◌≤◌, ◌+◌, ◌++◌, ◌∷◌, ℕ, zero, suc, List, [], length, get_or, take, refl, sym, ap, subst, arith}
use Rattle.std.proofs.Math.Seq.{take-suc}
use Rattle.sv_model.specs.Lists.{Every}

pub low-at : (l : List ℕ) → Every (λ n. n < 64) l → (i : ℕ) → i < length l → get_or l i 0 < 64
low-at [] h i lt = absurd (omega arith)
low-at (x ∷ l) h zero lt = h 0 x refl
low-at (x ∷ l) h (suc i) lt = low-at l (λ j y e. h (suc j) y e) i (omega arith)

pub take-next : (l : List ℕ) (i : ℕ) → i < length l → take i l ++ (get_or l i 0 ∷ []) ≡ take (i + 1) l
take-next l i lt = subst (λ n. take i l ++ (get_or l i 0 ∷ []) ≡ take n l) (let q : suc i ≡ i + 1 = omega arith in q) (sym (take-suc l i 0 lt))

pub take-whole : (l : List ℕ) (i : ℕ) → length l ≤ i → take i l ≡ l
take-whole [] zero h = refl
take-whole [] (suc i) h = refl
take-whole (x ∷ l) zero h = absurd (omega arith)
take-whole (x ∷ l) (suc i) h = ap (λ (z : List ℕ). x ∷ z) (take-whole l i (omega arith))
