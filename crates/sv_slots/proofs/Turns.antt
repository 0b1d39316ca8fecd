-- Turning the slots that a lane carries.
use Rattle.std.proofs.Common.{List, [], ap, arith, cond, drop, eq-eqb, get_or, length, length-append, ne_eqb, refl, subst, suc, sym, ℕ, ◌++◌, ◌+◌, ◌<◌, ◌∙◌, ◌∷◌, ◌≡◌, ◌≢◌}
use mathlib.Core.Logic.{dite}
use native.Mathlib.Decide.{ℕ_discrete}
use Rattle.atomic_table.specs.Table.{rest, turned}
use Rattle.sv_model.specs.Lists.{same, times}
use Rattle.sv_rule.proofs.Sums.{total-append}
use Rattle.sv_rule.specs.Views.{LaneView}
use Rattle.sv_rule.specs.declared.parts.Stored.{Stored}
use Rattle.sv_rule.specs.declared.parts.Stored.TheVariants as is
use Rattle.sv_slots.specs.Seats.{StartsAt}
use Rattle.sv_slots.specs.Carried.{Carries, ahead, nothings, rotated}

module _ {S D C B : Type 0} where
  nothings-append : (xs ys : List ℕ) → nothings {S = S} {D = D} {C = C} {B = B} (xs ++ ys) ≡ nothings xs ++ nothings ys
  nothings-append [] ys = refl
  nothings-append (x ∷ xs) ys = ap (λ (l : List (ℕ × Stored S D C B)). (x, is.Nothing) ∷ l) (nothings-append xs ys)

  pub turned-nothings : (l : List ℕ) → turned (nothings {S = S} {D = D} {C = C} {B = B} l) ≡ nothings (rotated l)
  turned-nothings [] = refl
  turned-nothings (x ∷ l) = sym (nothings-append l (x ∷ []))

  pub starts_at : (l : List ℕ) (k : ℕ) (c : List (ℕ × Stored S D C B)) → c ≡ nothings l → 0 < length l
      → get_or l 0 k ≡ k → StartsAt k c
  starts_at [] k c e h f = absurd (omega arith)
  starts_at (x ∷ l) k c e h f = (e ∙ (λ j. (f j, is.Nothing) ∷ nothings l)) ∙ (λ j. (k, is.Nothing) ∷ rest (sym e j))

pub rotated_by : (l : List ℕ) (x : ℕ) → 0 < length l → x ≡ get_or l 0 x → drop 1 l ++ x ∷ [] ≡ rotated l
rotated_by [] x h e = absurd (omega arith)
rotated_by (y ∷ l) x h e = ap (λ (z : ℕ). l ++ z ∷ []) e

pub rotated_none : (l : List ℕ) → length l ≡ 0 → l ≡ rotated l
rotated_none [] e = refl
rotated_none (x ∷ l) e = absurd (omega arith)

pub length-rotated : (l : List ℕ) → length (rotated l) ≡ length l
length-rotated [] = refl
length-rotated (x ∷ l) = omega (arith, length-append l (x ∷ []))

pub times-rotated : (k : ℕ) (l : List ℕ) → times k (rotated l) ≡ times k l
times-rotated k [] = refl
times-rotated k (x ∷ l) = omega (arith, total-append (same k) l (x ∷ []))

pub carries-turned : {S D C B : Type 0} (v : LaneView) (c c' : List (ℕ × Stored S D C B)) (l l' : List ℕ)
    → Carries v c l → c' ≡ turned c → l' ≡ rotated l → Carries v c' l'
carries-turned v c c' l l' h e r = record {
  stands = e ∙ (ap turned h.stands ∙ (turned-nothings l ∙ ap nothings (sym r)));
  each = λ k. ap (times k) r ∙ (times-rotated k l ∙ h.each k);
  many = ap length r ∙ (length-rotated l ∙ h.many);
  few = h.few;
  none_held = h.none_held;
}

pub carries_from : {S D C B : Type 0} (v v' : LaneView) (c c' : List (ℕ × Stored S D C B)) (l l' : List ℕ)
    → Carries v c l → v' ≡ v → c' ≡ turned c → l' ≡ rotated l → Carries v' c' l'
carries_from v v' c c' l l' h same e r = subst (λ (z : LaneView). Carries z c' l') (sym same)
    (carries-turned v c c' l l' h e r)

ahead-append : (k : ℕ) (xs ys : List ℕ) → ahead k xs < length xs → ahead k (xs ++ ys) ≡ ahead k xs
ahead-append k [] ys h = absurd (omega arith)
ahead-append k (x ∷ xs) ys h = dite (ℕ_discrete x k)
    (λ e. ap (λ b. cond b 0 (suc (ahead k (xs ++ ys)))) (eq-eqb x k e)
    ∙ sym (ap (λ b. cond b 0 (suc (ahead k xs))) (eq-eqb x k e)))
    (λ n. let miss = ap (λ b. cond b 0 (suc (ahead k xs))) (ne_eqb x k n) in
    ap (λ b. cond b 0 (suc (ahead k (xs ++ ys)))) (ne_eqb x k n)
    ∙ (ap suc (ahead-append k xs ys (omega arith)) ∙ sym miss))

pub ahead-rotated : (k : ℕ) (l : List ℕ) → ahead k l < length l → get_or l 0 0 ≢ k
    → ahead k (rotated l) + 1 ≡ ahead k l
ahead-rotated k [] h n = absurd (omega arith)
ahead-rotated k (y ∷ l) h n =
    let miss : ahead k (y ∷ l) ≡ suc (ahead k l) = ap (λ b. cond b 0 (suc (ahead k l))) (ne_eqb y k n) in
    omega (arith, ahead-append k l (y ∷ []) (omega arith))

-- the first was not k, and is behind the others now
pub turned_once : (k : ℕ) (l l' c : List ℕ) → c ≡ l → l' ≡ rotated l → ahead k l < length l
    → (get_or c 0 0 ≡ k → ⊥) → (ahead k l' + 1 ≡ ahead k l) × (length l' ≡ length l)
turned_once k l l' c same e h n = (
  ap (λ z. ahead k z + 1) e ∙ ahead-rotated k l h (λ z. n (ap (λ y. get_or y 0 0) same ∙ z)),
  ap length e ∙ length-rotated l,
)

-- what the lane has out lies among what it carries
pub ahead-times : (k : ℕ) (l : List ℕ) → 0 < times k l → ahead k l < length l
ahead-times k [] h = absurd (omega arith)
ahead-times k (x ∷ l) h = dite (ℕ_discrete x k)
    (λ e. let z : ahead k (x ∷ l) ≡ 0 = ap (λ b. cond b 0 (suc (ahead k l))) (eq-eqb x k e) in omega arith)
    (λ n. let miss : ahead k (x ∷ l) ≡ suc (ahead k l) = ap (λ b. cond b 0 (suc (ahead k l))) (ne_eqb x k n) in
    omega (arith, ahead-times k l (omega (arith, Rattle.sv_rule.proofs.Sums.same-else k x n))))

pub ahead_first : (k : ℕ) (l : List ℕ) → 0 < length l → get_or l 0 k ≡ k → ahead k l ≡ 0
ahead_first k [] h e = absurd (omega arith)
ahead_first k (x ∷ l) h e = ap (λ b. cond b 0 (suc (ahead k l))) (eq-eqb x k e)
