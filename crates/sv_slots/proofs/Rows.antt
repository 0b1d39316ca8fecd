-- Lists that are made one entry at a time.
use Rattle.std.proofs.Common.{List, Some, [], ap, arith, get_or, inl, inr, length, length-append, refl, replicate, subst, suc, sym, zero, ℕ, ⊎_elim, ◌++◌, ◌+◌, ◌<◌, ◌∙◌, ◌∷◌, ◌≡◌, ◌≤◌, ◌⊎◌, slice_get}
use Rattle.std.proofs.lemmas.List.{append_assoc}
use mathlib.Core.Option.{some, some-ne-none}
use lib.ListN.{get_elem?}
use Rattle.std.specs.List.{insert, remove}
use Rattle.sv_model.specs.Lists.{Every}
use Rattle.sv_rule.proofs.Basics.{get_none, some_is}

-- each entry k of a list of numbers has P k
abbrev pub IsRow : (ℕ → ℕ → Type 0) → List ℕ → Type 0
IsRow P l = (k : ℕ) → k < length l → P k (get_or l k 0)

pub row-push : (P : ℕ → ℕ → Type 0) (l : List ℕ) (x : ℕ) → IsRow P l → P (length l) x → IsRow P (l ++ x ∷ [])
row-push P [] x r p zero h = p
row-push P [] x r p (suc k) h = absurd (omega arith)
row-push P (y ∷ l) x r p zero h = r 0 (omega arith)
row-push P (y ∷ l) x r p (suc k) h = row-push (λ j. P (suc j)) l x (λ j z. r (suc j) (omega arith)) p k (omega arith)

-- beyond its end a list of numbers has 0
pub beyond : (l : List ℕ) (k : ℕ) → length l ≤ k → get_or l k 0 ≡ 0
beyond [] k h = refl
beyond (x ∷ l) zero h = absurd (omega arith)
beyond (x ∷ l) (suc k) h = beyond l k (omega arith)

module _ {A : Type 0} where
  pub get-left : (a b : List A) (k : ℕ) (y : A) → get_elem? a k ≡ some y → get_elem? (a ++ b) k ≡ some y
  get-left [] b k y e = absurd (some-ne-none y (sym e))
  get-left (x ∷ a) b zero y e = e
  get-left (x ∷ a) b (suc k) y e = get-left a b k y e

  pub get-right : (a b : List A) (k j : ℕ) → j ≡ length a + k → get_elem? (a ++ b) j ≡ get_elem? b k
  get-right [] b k j e = ap (get_elem? b) (omega (arith, e))
  get-right (x ∷ a) b k zero e = absurd (omega (arith, e))
  get-right (x ∷ a) b k (suc j) e = get-right a b k j (omega (arith, e))

  pub get-replicate : (n k : ℕ) (x : A) → k < n → get_elem? (replicate n x) k ≡ some x
  get-replicate zero k x h = absurd (omega arith)
  get-replicate (suc n) zero x h = refl
  get-replicate (suc n) (suc k) x h = get-replicate n k x (omega arith)

  -- one more of the same
  pub replicate-more : (l : List A) (n m : ℕ) (x : A) → n ≡ suc m → l ++ replicate n x ≡ (l ++ x ∷ []) ++ replicate m x
  replicate-more l n m x e = ap (λ z. l ++ replicate z x) e ∙ sym (append_assoc l (x ∷ []) (replicate m x))

  -- the first of a list, and the rest
  pub first-rest : (l : List A) (x : A) → 0 < length l → x ≡ get_or l 0 x → l ≡ x ∷ remove l 0
  first-rest [] x h e = absurd (omega arith)
  first-rest (y ∷ l) x h e = ap (λ z. z ∷ l) (sym e)

  pub insert-first : (l : List A) (x : A) → insert l 0 x ≡ x ∷ l
  insert-first [] x = refl
  insert-first (y ∷ l) x = refl

  -- an entry of a list that has one more is one of before, or the last
  pub get-last : (l : List A) (y : A) (k : ℕ) (x : A) → slice_get (l ++ y ∷ []) k ≡ Some x
      → (slice_get l k ≡ Some x) ⊎ ((x ≡ y) × (k ≡ length l))
  get-last [] y zero x e = inr (sym (some_is e), refl)
  get-last [] y (suc k) x e = absurd (cc)
  get-last (z ∷ l) y zero x e = inl e
  get-last (z ∷ l) y (suc k) x e = ⊎_elim (λ (h : slice_get l k ≡ Some x). inl h)
      (λ (h : (x ≡ y) × (k ≡ length l)). inr (h.0, ap suc h.1)) (get-last l y k x e)

  -- a list of two, then 64, then 512
  pub laid-long : (a b : A) (m r : List A) → length m ≡ 64 → length r ≡ 512 → length (a ∷ b ∷ (m ++ r)) ≡ 578
  laid-long a b m r x y = omega (arith, length-append m r, x, y)

  pub laid-first : (a b : A) (m r : List A) (c k : ℕ) (y : A) → k ≡ suc (suc c) → get_elem? m c ≡ some y
      → get_elem? (a ∷ b ∷ (m ++ r)) k ≡ some y
  laid-first a b m r c k y e h = ap (get_elem? (a ∷ b ∷ (m ++ r))) e ∙ get-left m r c y h

  pub laid-rest : (a b : A) (m r : List A) (i k : ℕ) (x : A) → length m ≡ 64 → k ≡ suc (suc (64 + i))
      → get_elem? r i ≡ some x → get_elem? (a ∷ b ∷ (m ++ r)) k ≡ some x
  laid-rest a b m r i k x count e h = ap (get_elem? (a ∷ b ∷ (m ++ r))) e
      ∙ (get-right m r i (64 + i) (omega (arith, count)) ∙ h)

  get-before : (l m : List A) (i : ℕ) (x : A) → slice_get l i ≡ Some x → slice_get (l ++ m) i ≡ Some x
  get-before [] m i x e = absurd (get_none i x e)
  get-before (y ∷ l) m zero x e = e
  get-before (y ∷ l) m (suc i) x e = get-before l m i x e

  get-after : (l : List A) (x : A) → slice_get (l ++ x ∷ []) (length l) ≡ Some x
  get-after [] x = refl
  get-after (y ∷ l) x = get-after l x

  module _ (P : A → Type 0) (l all : List A) (x : A) (e : all ≡ l ++ x ∷ []) (h : Every P all) where
    pub every-before : Every P l
    every-before i y at = h i y
        (subst (λ (z : List A). slice_get z i ≡ Some y) (sym e) (get-before l (x ∷ []) i y at))

    pub every-last : P x
    every-last = h (length l) x (subst (λ (z : List A). slice_get z (length l) ≡ Some x) (sym e) (get-after l x))
