-- What a call that was not refused met.
use Rattle.std.proofs.Common.{None, Some, ap, arith, cond, suc, sum, sym, zero, ℕ, ◌<◌, ◌∙◌, ◌≡◌}
use Rattle.std.specs.Prelude.{slice_get}
use Rattle.std.proofs.lemmas.Bool.{lt-ltb}
use mathlib.Core.Logic.{dite}
use native.Mathlib.Decide.{ℕ_discrete}
use Rattle.sv_model.specs.Books.{Books, FileRegister}
use Rattle.sv_model.specs.Families.{default_name}
use Rattle.sv_model.specs.Lawful.{Lawful}
use Rattle.sv_model.specs.declared.records.Family.{Family}
use Rattle.sv_model.specs.declared.refusals.Refusal.TheVariants.{Disabled}
use Rattle.sv_model.proofs.Entries.{some}
use Rattle.sv_files.specs.Calls.{disabled}

-- no hold stood
pub no_holds : (r : FileRegister) → disabled r ≡ None → sum r.holds ≡ 0
no_holds r e = dite (ℕ_discrete (sum r.holds) 0) (λ q. q)
    (λ ne. absurd (clash (sym (ap (λ b. cond b (Some (Disabled (sum r.holds))) None)
    (lt-ltb 0 (sum r.holds) (omega (arith, ne)))) ∙ e)))
  where
    clash : Some (Disabled (sum r.holds)) ≡ None → ⊥
    clash e = cc

-- a family of another name than that of the default one is not it
pub not-default : (a : Books) → Lawful a → (f : ℕ) (x : Family) → slice_get a.families f ≡ Some x
    → (x.name ≡ default_name → ⊥) → 0 < f
not-default a k zero x e ne =
    let d = k.default in
    absurd (ne (ap (λ (z : Family). z.name) (some (sym e ∙ d.at)) ∙ d.name_is))
not-default a k (suc f) x e ne = omega arith
