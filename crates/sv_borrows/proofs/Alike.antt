-- Numbers by family that are the same.
use Rattle.std.proofs.Common.{List, arith, max, ap, refl, sym, ℕ, ◌∙◌, ◌≡◌}
use mathlib.Core.Logic.{dite}
use native.Mathlib.Decide.{ℕ_discrete}
use Rattle.sv_borrows.specs.Desks.{AreAlike}
use Rattle.sv_model.specs.Lists.{at}
use Rattle.sv_rule.specs.LockPlays.{raised}
use Rattle.sv_rule.proofs.Sums.{at-put_else, at-put_same}

-- what is raised to nothing is as it was
pub raised-none : (seen : List ℕ) → AreAlike (raised seen 0 0) seen
raised-none seen f = dite (ℕ_discrete f 0)
    (λ e. let a = at-put_same 0 seen 0 (max (at 0 seen 0) 0) in
    ap (at 0 (raised seen 0 0)) e ∙ (let z : at 0 (raised seen 0 0) 0 ≡ at 0 seen 0 = omega (arith, a) in z) ∙ sym (ap (at 0 seen) e))
    (λ ne. at-put_else 0 seen 0 f (max (at 0 seen 0) 0) ne)

pub alike-itself : (s : List ℕ) → AreAlike s s
alike-itself s f = refl

pub alike-through : (s t u : List ℕ) → AreAlike s t → AreAlike t u → AreAlike s u
alike-through s t u h k f = h f ∙ k f
