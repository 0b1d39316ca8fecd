-- The SuperVersion that was current before an install may go once it is swept.
use Rattle.std.proofs.Common.{List, Some, ap, arith, subst, ℕ, ◌/◌, ◌%◌, ◌<◌, ◌∙◌, ◌∷◌, ◌≡◌, ◌≢◌, ◌≤◌}
use Rattle.std.specs.Prelude.{[]}
use mathlib.Core.Logic.{dite}
use native.Mathlib.Decide.{ℕ_discrete}
use Rattle.sv_borrows.proofs.Accounted.{is-free}
use Rattle.sv_model.specs.Books.{Books}
use Rattle.sv_model.specs.Lawful.{Lawful}
use Rattle.sv_model.specs.Registers.{entry}
use Rattle.sv_model.specs.Supers.{IsPackOf, IsSerialOf, LiveAt, current_of}
use Rattle.sv_model.specs.Turns.{Opens}
use Rattle.sv_model.specs.declared.records.SuperVersion.{SuperVersion}
use Rattle.sv_model.proofs.Registers.{entry-old}
use Rattle.sv_rule.proofs.CurrentLaws.{current_is, current_live, one_family, pack_le, pack_serial}
use Rattle.sv_state.specs.Gone.{IsFree}

module _ (a b : Books) (before : Lawful a) (after : Lawful b) (f : ℕ) (big : 256 ≤ current_of a f)
    (h : Opens a b f (current_of b f)) where
  abbrev p : ℕ
  p = current_of a f

  was : IsPackOf a.supers f p
  was = current_is a before f big

  grown : (n : ℕ) (x : SuperVersion) → entry a.supers n ≡ Some x → entry b.supers n ≡ Some x
  grown n x e = ap (λ (l : List SuperVersion). entry l n) h.supers ∙ entry-old a.supers (h.super ∷ []) n x e

  still : IsPackOf b.supers f p
  still = record { sv = was.sv; is = grown (p / 256) was.sv was.is; family = was.family; place = was.place }

  alive : LiveAt b.supers (p / 256) (p % 256)
  alive = let l = current_live a before f big in
      record { sv = l.sv; is = grown (p / 256) l.sv l.is; live = l.live; place_is = l.place_is }

  no-current : (g : ℕ) → g < 16 → p ≢ current_of b g
  no-current g near e = dite (ℕ_discrete g f)
      (λ q. omega (arith, pack_le was, h.serial, ap (λ (n : ℕ). n / 256) (e ∙ ap (current_of b) q)))
      (λ ne.
      let there = current_is b after g (subst (λ (n : ℕ). 256 ≤ n) e big) in
      ne (one_family (pack_serial there) (subst (λ (n : ℕ). IsSerialOf b.supers f (n / 256)) e (pack_serial still))))

  -- It is Live still, and current of no family.
  pub before-free : IsFree b p
  before-free = is-free b after p alive no-current
