-- What a call leaves, whether it was refused or not.
use Rattle.std.proofs.Common.{◌≡◌, ◌<◌, ℕ, Bool, true, false, cond, Option, Some, None, refl, sym, subst, arith}
use Rattle.std.specs.Prelude.{nat_le}
use Rattle.std.proofs.lemmas.Grind.{common_steps}
use Rattle.sv_model.specs.declared.refusals.Refusal.{Refusal}
use Rattle.sv_model.specs.After.{After}
use Rattle.sv_model.specs.Books.{Books}
use Rattle.sv_model.specs.Steady.{Sound}
use Rattle.sv_model.proofs.AfterLaws.{after-itself}
use Rattle.sv_state.specs.Follows.{Follows}

pub follows : (a b : Books) → Sound b × After a b → Follows a b
follows a b law = record { sound = law.0; after = law.1 }

pub same-books : (a b : Books) → Sound a → b ≡ a → Sound b × After a b
same-books a b k e = subst (λ z. Sound z × After a z) (sym e) (k, after-itself a)

-- what a refusal that is not due tells
pub not-due : (b : Bool) (e : Refusal) (r : Option Refusal) → cond b (Some e) r ≡ None → (b ≡ false) × (r ≡ None)
not-due true e r q = absurd (cc)
not-due false e r q = (refl, q)

pub below : (k n : ℕ) → nat_le k n ≡ false → n < k
below k n h = grind (arith, common_steps)
