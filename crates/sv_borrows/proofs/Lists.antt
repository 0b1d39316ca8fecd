-- Small laws on lists of packs.
use Rattle.std.proofs.Common.{List, ap, cond, eq-eqb, refl, ℕ, ◌∷◌, ◌≡◌}
use Rattle.sv_rule.specs.Sums.{without}

-- the first of a list is taken out of it again
pub without-first : (p : ℕ) (l : List ℕ) → without p (p ∷ l) ≡ l
without-first p l = ap (λ q. cond q l (p ∷ without p l)) (eq-eqb p p refl)
