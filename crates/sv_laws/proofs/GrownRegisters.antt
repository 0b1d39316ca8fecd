-- Registers that grow by one object at most, and lists of which one item changes.
use Rattle.std.proofs.Common.{◌≡◌, ◌≢◌, ◌<◌, ◌≤◌, ℕ, zero, suc, ◌+◌, ◌⊎◌, inl, inr, ⊎_elim, List, [], ◌∷◌, length, Some, refl, sym, ap, ◌∙◌, subst, arith, length-append, set, ◌++◌}
use Rattle.std.specs.Prelude.{slice_get}
use mathlib.Core.Logic.{dite}
use native.Mathlib.Decide.{ℕ_discrete}
use Rattle.sv_model.specs.Registers.{entry, Has, GoesOn}
use Rattle.sv_model.specs.Lists.{total}
use Rattle.sv_model.proofs.Registers.{entry-old, entry_push, entry_le, entry-same, entry-else}
use Rattle.sv_model.proofs.Lists.{total-push}
use Rattle.sv_laws.specs.Growing.{Grows, IsPlaced}
use Rattle.sv_model.proofs.Entries.{some}

module _ {A : Type 0} (P : ℕ → A → Type 0) (a b : List A) where
  -- an entry is an old one, or the new one
  pub grown_entry : Grows P a b → (n : ℕ) (x : A) → entry b n ≡ Some x
      → (entry a n ≡ Some x) ⊎ ((n ≡ length a + 1) × P n x)
  grown_entry g n x e = ⊎_elim
      (λ q. inl (subst (λ l. entry l n ≡ Some x) q e))
      (λ h. ⊎_elim (λ o. inl o) (λ o. inr (o.0, subst (λ (z : ℕ × A). P z.0 z.1) (λ i. (sym o.0 i, sym o.1 i)) h.2)) (entry_push a h.0 n x (subst (λ l. entry l n ≡ Some x) h.1 e)))
      g

  pub grown-old : Grows P a b → (n : ℕ) (x : A) → entry a n ≡ Some x → entry b n ≡ Some x
  grown-old g n x e = ⊎_elim
      (λ q. subst (λ l. entry l n ≡ Some x) (sym q) e)
      (λ h. subst (λ l. entry l n ≡ Some x) (sym h.1) (entry-old a (h.0 ∷ []) n x e))
      g

  pub grown-goes : Grows P a b → (R : A → A → Type 0) → ((x : A) → R x x) → GoesOn R a b
  grown-goes g R same n x e = (x, grown-old g n x e, same x)

  pub grown-has : Grows P a b → (Q : A → Type 0) → Has Q a → Has Q b
  grown-has g Q h = (h.0, h.1, grown-old g h.0 h.1 h.2, h.3)

  pub grown-longer : Grows P a b → length a ≤ length b
  grown-longer g =
      ⊎_elim (λ q. omega (arith, ap length q)) (λ h. omega (arith, ap length h.1, length-append a (h.0 ∷ []))) g

  pub grown-shorter : Grows P a b → length b ≤ length a + 1
  grown-shorter g =
      ⊎_elim (λ q. omega (arith, ap length q)) (λ h. omega (arith, ap length h.1, length-append a (h.0 ∷ []))) g

  -- a sum with terms of 1 at most
  pub grown-total : Grows P a b → (w : A → ℕ) (k : ℕ) → ((x : A) → w x ≤ 1) → total w a ≤ k
      → ((n : ℕ) (y : A) → P n y → total w a < k) → total w b ≤ k
  grown-total g w k one all new = ⊎_elim
      (λ q. omega (arith, all, ap (total w) q))
      (λ h. omega (arith, new (length a + 1) h.0 h.2, ap (total w) h.1, total-push w a h.0, one h.0))
      g

module _ {A : Type 0} (a b : List A) (f : ℕ) (x : A) (p : IsPlaced a b f x) where
  pub placed_get : (g : ℕ) (y : A) → slice_get b g ≡ Some y → ((g ≡ f) × (y ≡ x)) ⊎ ((g ≢ f) × (slice_get a g ≡ Some y))
  placed_get g y e = dite (ℕ_discrete g f)
      (λ q. inl (q, some (sym e ∙ ap (slice_get b) q ∙ p.here)))
      (λ q. inr (q, sym (p.others g q) ∙ e))

  -- as registers go on
  pub placed-goes : (R : A → A → Type 0) → ((y : A) → R y y) → ((y : A) → slice_get a f ≡ Some y → R y x) → GoesOn R a b
  placed-goes R same here zero y e = absurd (cc)
  placed-goes R same here (suc g) y e = dite (ℕ_discrete g f)
      (λ q. (x, ap (slice_get b) q ∙ p.here, here y (ap (slice_get a) (sym q) ∙ e)))
      (λ q. (y, p.others g q ∙ e, same y))

pub get_within : {A : Type 0} (l : List A) (n : ℕ) (x : A) → slice_get l n ≡ Some x → n < length l
get_within l n x e = (entry_le l (suc n) x e).1

pub placed-set : {A : Type 0} (l : List A) (f : ℕ) (z y : A) → slice_get l f ≡ Some z → IsPlaced l (set l f y) f y
placed-set l f z y e = record {
  here = entry-same l (suc f) z y e;
  others = λ g d. entry-else l (suc f) (suc g) y (λ q. d (let o : g ≡ f = omega (arith, q) in o));
}

pub placed-same : {A : Type 0} (l : List A) (f : ℕ) (z : A) → slice_get l f ≡ Some z → IsPlaced l l f z
placed-same l f z e = record { here = e; others = λ g d. refl }

get_new : {A : Type 0} (l : List A) (y : A) → slice_get (l ++ y ∷ []) (length l) ≡ Some y
get_new [] y = refl
get_new (x ∷ l) y = get_new l y

get-else : {A : Type 0} (l : List A) (y : A) (g : ℕ) → g ≢ length l → slice_get (l ++ y ∷ []) g ≡ slice_get l g
get-else [] y zero d = absurd (d refl)
get-else [] y (suc g) d = refl
get-else (x ∷ l) y zero d = refl
get-else (x ∷ l) y (suc g) d = get-else l y g (λ q. d (ap suc q))

pub placed-push : {A : Type 0} (l : List A) (y : A) → IsPlaced l (l ++ y ∷ []) (length l) y
placed-push l y = record { here = get_new l y; others = get-else l y }
