-- Sums over lists, numbers and registers that change at one place.
use Rattle.std.proofs.Common.{List, [], ap, arith, cond, eq-eqb, get_or, get_or-set_other, get_or-set_same, length, ne_eqb, refl, set, suc, sym, zero, ℕ, ◌*◌, ◌++◌, ◌+◌, ◌<◌, ◌==◌, ◌∙◌, ◌∷◌, ◌≡◌, ◌≢◌, ◌≤◌}
use mathlib.Core.Logic.{dite}
use mathlib.Core.Option.{some, some-injective, some-ne-none}
use native.Mathlib.Decide.{ℕ_discrete}
use lib.ListN.{get_elem?}
use Rattle.sv_model.specs.Lists.{same, total, at}
use Rattle.sv_rule.specs.Sums.{Put, below, put, without}

pub same-self : (p : ℕ) → same p p ≡ 1
same-self p = ap (λ b. cond b 1 0) (eq-eqb p p refl)

pub same_one : (p q : ℕ) → q ≡ p → same p q ≡ 1
same_one p q e = ap (λ b. cond b 1 0) (eq-eqb q p e)

pub same-else : (p x : ℕ) → x ≢ p → same p x ≡ 0
same-else p x n = ap (λ b. cond b 1 0) (ne_eqb x p n)

module _ {A : Type 0} (g : A → ℕ) where
  pub total-append : (l m : List A) → total g (l ++ m) ≡ total g l + total g m
  total-append [] m = omega arith
  total-append (x ∷ xs) m = omega (arith, total-append xs m)

  pub total-set : (l : List A) (j : ℕ) (v w : A) → get_elem? l j ≡ some v → total g (set l j w) + g v ≡ total g l + g w
  total-set [] j v w e = absurd (some-ne-none v (sym e))
  total-set (x ∷ xs) zero v w e = omega (arith, ap g (some-injective x v e))
  total-set (x ∷ xs) (suc j) v w e = omega (arith, total-set xs j v w e)

  pub term_le : (l : List A) (j : ℕ) (v : A) → get_elem? l j ≡ some v → g v ≤ total g l
  term_le [] j v e = absurd (some-ne-none v (sym e))
  term_le (x ∷ xs) zero v e = omega (arith, ap g (some-injective x v e))
  term_le (x ∷ xs) (suc j) v e = omega (arith, term_le xs j v e)

  pub terms_le : (l : List A) (j k : ℕ) (v u : A) → k ≢ j → get_elem? l j ≡ some v → get_elem? l k ≡ some u
      → g v + g u ≤ total g l
  terms_le [] j k v u n e d = absurd (some-ne-none v (sym e))
  terms_le (x ∷ xs) zero zero v u n e d = absurd (n refl)
  terms_le (x ∷ xs) zero (suc k) v u n e d = omega (arith, ap g (some-injective x v e), term_le xs k u d)
  terms_le (x ∷ xs) (suc j) zero v u n e d = omega (arith, ap g (some-injective x u d), term_le xs j v e)
  terms_le (x ∷ xs) (suc j) (suc k) v u n e d = omega (arith, terms_le xs j k v u (λ h. n (ap suc h)) e d)

  -- no more than m for each
  pub total_le : (l : List A) (m : ℕ) → ((j : ℕ) (v : A) → get_elem? l j ≡ some v → g v ≤ m) → total g l ≤ length l * m
  total_le [] m h = omega arith
  total_le (x ∷ xs) m h = let a : g x ≤ m = h 0 x refl in
      let b : total g xs ≤ length xs * m = total_le xs m (λ j. h (suc j)) in omega arith

  pub total-put : (d : A) → g d ≡ 0 → (l : List A) (i : ℕ) (a : A)
      → total g (put d l i a) + g (at d l i) ≡ total g l + g a
  total-put d z [] zero a = omega (arith, z)
  total-put d z [] (suc i) a = omega (arith, z, total-put d z [] i a)
  total-put d z (x ∷ xs) zero a = omega arith
  total-put d z (x ∷ xs) (suc i) a = omega (arith, total-put d z xs i a)

  pub at_le : (d : A) → g d ≡ 0 → (l : List A) (i : ℕ) → g (at d l i) ≤ total g l
  at_le d z [] i = omega (arith, z)
  at_le d z (x ∷ xs) zero = omega arith
  at_le d z (x ∷ xs) (suc i) = omega (arith, at_le d z xs i)

module _ {A : Type 0} (d : A) where
  pub at-put_same : (l : List A) (i : ℕ) (a : A) → at d (put d l i a) i ≡ a
  at-put_same [] zero a = refl
  at-put_same [] (suc i) a = at-put_same [] i a
  at-put_same (x ∷ xs) zero a = refl
  at-put_same (x ∷ xs) (suc i) a = at-put_same xs i a

  pub at-put_else : (l : List A) (i k : ℕ) (a : A) → k ≢ i → at d (put d l i a) k ≡ at d l k
  at-put_else [] zero zero a n = absurd (n refl)
  at-put_else [] zero (suc k) a n = refl
  at-put_else [] (suc i) zero a n = refl
  at-put_else [] (suc i) (suc k) a n = at-put_else [] i k a (λ e. n (ap suc e))
  at-put_else (x ∷ xs) zero zero a n = absurd (n refl)
  at-put_else (x ∷ xs) zero (suc k) a n = refl
  at-put_else (x ∷ xs) (suc i) zero a n = refl
  at-put_else (x ∷ xs) (suc i) (suc k) a n = at-put_else xs i k a (λ e. n (ap suc e))

  pub length-put : (l : List A) (i : ℕ) (a : A) (n : ℕ) → length l ≤ n → i < n → length (put d l i a) ≤ n
  length-put l i a zero s h = absurd (omega arith)
  length-put [] zero a (suc n) s h = omega arith
  length-put [] (suc i) a (suc n) s h = let r = length-put [] i a n (omega arith) (omega arith) in omega arith
  length-put (x ∷ xs) zero a (suc n) s h = omega arith
  length-put (x ∷ xs) (suc i) a (suc n) s h = let r = length-put xs i a n (omega arith) (omega arith) in omega arith

pub total-without : (p : ℕ) (l : List ℕ) → 0 < total (same p) l → (q : ℕ)
    → total (same q) (without p l) + same q p ≡ total (same q) l
total-without p [] h q = absurd (omega arith)
total-without p (x ∷ xs) h q = dite (ℕ_discrete x p)
    (λ e. omega (arith, ap (λ b. total (same q) (cond b xs (x ∷ without p xs))) (eq-eqb x p e), ap (same q) e))
    (λ n. omega (
      arith,
      ap (λ b. total (same q) (cond b xs (x ∷ without p xs))) (ne_eqb x p n),
      total-without p xs (omega (arith, same-else p x n)) q,
    ))

pub length-without : (p : ℕ) (l : List ℕ) → length (without p l) ≤ length l
length-without p [] = omega arith
length-without p (x ∷ xs) = dite (ℕ_discrete x p)
    (λ e. omega (arith, ap (λ b. length (cond b xs (x ∷ without p xs))) (eq-eqb x p e)))
    (λ n. omega (arith, ap (λ b. length (cond b xs (x ∷ without p xs))) (ne_eqb x p n), length-without p xs))

pub total-same_le : (p : ℕ) (l : List ℕ) → total (same p) l ≤ length l
total-same_le p [] = omega arith
total-same_le p (x ∷ xs) = dite (ℕ_discrete x p) (λ e. omega (arith, ap (same p) e, same-self p, total-same_le p xs))
    (λ n. omega (arith, same-else p x n, total-same_le p xs))

pub below-same : (f g : ℕ → ℕ) (n : ℕ) → ((k : ℕ) → k < n → g k ≡ f k) → below g n ≡ below f n
unfolding below
below-same f g zero h = refl
below-same f g (suc n) h = omega (arith, below-same f g n (λ k l. h k (omega arith)), h n (omega arith))

pub below-put : (f g : ℕ → ℕ) (j n : ℕ) → j < n → ((k : ℕ) → k ≢ j → g k ≡ f k) → below g n + f j ≡ below f n + g j
unfolding below
below-put f g j zero h e = absurd (omega arith)
below-put f g j (suc n) h e = dite (ℕ_discrete j n)
    (λ y. omega (arith, below-same f g n (λ k l. e k (λ z. omega arith)), ap f y, ap g y))
    (λ y. omega (arith, below-put f g j n (omega arith) e, e n (λ z. y (sym z))))

pub below_le : (f : ℕ → ℕ) (n : ℕ) → ((k : ℕ) → f k ≤ 1) → below f n ≤ n
unfolding below
below_le f zero h = omega arith
below_le f (suc n) h = omega (arith, below_le f n h, h n)

pub below-term_le : (f : ℕ → ℕ) (j n : ℕ) → j < n → f j ≤ below f n
unfolding below
below-term_le f j zero h = absurd (omega arith)
below-term_le f j (suc n) h = dite (ℕ_discrete j n) (λ y. omega (arith, ap f y))
    (λ y. omega (arith, below-term_le f j n (omega arith)))

pub same_le : (p x : ℕ) → same p x ≤ 1
same_le p x = dite (ℕ_discrete x p) (λ e. omega (arith, ap (same p) e, same-self p))
    (λ n. omega (arith, same-else p x n))

-- a word of a row changes only where it was set
pub row-put : (ws : List ℕ) (base j x : ℕ) → base + j < length ws
    → Put (λ k. get_or ws (base + k) 0) (λ k. get_or (set ws (base + j) x) (base + k) 0) j x
row-put ws base j x h = record {
  here = get_or-set_same ws (base + j) x 0 h;
  else = λ k n. get_or-set_other ws (base + j) (base + k) x 0 (λ e. n (omega arith));
}

pub total-without_else : (p q : ℕ) (l : List ℕ) → q ≢ p → total (same q) (without p l) ≡ total (same q) l
total-without_else p q [] n = refl
total-without_else p q (x ∷ xs) n = dite (ℕ_discrete x p)
    (λ e. ap (λ b. total (same q) (cond b xs (x ∷ without p xs))) (eq-eqb x p e)
    ∙ omega (arith, same-else q x (λ z. n (sym z ∙ e))))
    (λ ne. ap (λ b. total (same q) (cond b xs (x ∷ without p xs))) (ne_eqb x p ne)
    ∙ omega (arith, total-without_else p q xs n))

pub at_lt : {A : Type 0} (l : List A) (i : ℕ) (a : A) → get_elem? l i ≡ some a → i < length l
at_lt [] i a e = absurd (some-ne-none a (sym e))
at_lt (x ∷ xs) zero a e = omega arith
at_lt (x ∷ xs) (suc i) a e = let h = at_lt xs i a e in omega arith

pub total-zero : {A : Type 0} (g : A → ℕ) (l : List A) → ((j : ℕ) (u : A) → get_elem? l j ≡ some u → g u ≡ 0)
    → total g l ≡ 0
total-zero g [] h = refl
total-zero g (x ∷ xs) h = omega (arith, h 0 x refl, total-zero g xs (λ j. h (suc j)))

-- where all others have none, one has all
pub total-one : {A : Type 0} (g : A → ℕ) (l : List A) (i : ℕ) (v : A) → get_elem? l i ≡ some v
    → ((j : ℕ) (u : A) → j ≢ i → get_elem? l j ≡ some u → g u ≡ 0) → total g l ≡ g v
total-one g [] i v e h = absurd (some-ne-none v (sym e))
total-one g (x ∷ xs) zero v e h = omega (
  arith,
  ap g (some-injective x v e),
  total-zero g xs (λ j u. h (suc j) u (λ z. omega arith)),
)
total-one g (x ∷ xs) (suc i) v e h = omega (
  arith,
  h 0 x (λ z. omega arith) refl,
  total-one g xs i v e (λ j u n. h (suc j) u (λ z. n (omega arith))),
)

-- a list read at an id, where one of it is set or one more is added
module _ {A : Type 0} (d : A) where
  pub at-is : (l : List A) (i : ℕ) (a : A) → get_elem? l i ≡ some a → at d l i ≡ a
  at-is [] i a e = absurd (some-ne-none a (sym e))
  at-is (x ∷ xs) zero a e = some-injective x a e
  at-is (x ∷ xs) (suc i) a e = at-is xs i a e

  pub at-set_same : (l : List A) (i : ℕ) (a b : A) → get_elem? l i ≡ some a → at d (set l i b) i ≡ b
  at-set_same [] i a b e = absurd (some-ne-none a (sym e))
  at-set_same (x ∷ xs) zero a b e = refl
  at-set_same (x ∷ xs) (suc i) a b e = at-set_same xs i a b e

  pub at-set_else : (l : List A) (i k : ℕ) (b : A) → k ≢ i → at d (set l i b) k ≡ at d l k
  at-set_else [] i k b n = refl
  at-set_else (x ∷ xs) zero zero b n = absurd (n refl)
  at-set_else (x ∷ xs) zero (suc k) b n = refl
  at-set_else (x ∷ xs) (suc i) zero b n = refl
  at-set_else (x ∷ xs) (suc i) (suc k) b n = at-set_else xs i k b (λ e. n (ap suc e))

  pub at-snoc_else : (l : List A) (b : A) (k : ℕ) → k ≢ length l → at d (l ++ b ∷ []) k ≡ at d l k
  at-snoc_else [] b zero n = absurd (n refl)
  at-snoc_else [] b (suc k) n = refl
  at-snoc_else (x ∷ xs) b zero n = refl
  at-snoc_else (x ∷ xs) b (suc k) n = at-snoc_else xs b k (λ e. n (ap suc e))

  pub at-snoc_last : (l : List A) (b : A) → at d (l ++ b ∷ []) (length l) ≡ b
  at-snoc_last [] b = refl
  at-snoc_last (x ∷ xs) b = at-snoc_last xs b

  pub at-past : (l : List A) (k : ℕ) → length l ≤ k → at d l k ≡ d
  at-past [] k h = refl
  at-past (x ∷ xs) zero h = absurd (omega arith)
  at-past (x ∷ xs) (suc k) h = at-past xs k (omega arith)

-- where one sum is none, so is another
pub total_none : {A : Type 0} (g h : A → ℕ) (l : List A) → ((x : A) → g x ≡ 0 → h x ≡ 0) → total g l ≡ 0 → total h l ≡ 0
total_none g h [] f z = refl
total_none g h (x ∷ l) f z = omega (arith, f x (omega arith), total_none g h l f (omega arith))

pub cond-is : (p q n : ℕ) → p ≡ q → cond (p == q) n 0 ≡ n
cond-is p q n e = ap (λ b. cond b n 0) (eq-eqb p q e)

pub cond-else : (p q n : ℕ) → p ≢ q → cond (p == q) n 0 ≡ 0
cond-else p q n e = ap (λ b. cond b n 0) (ne_eqb p q e)

-- a word that is no pack names none
pub marked : (q w : ℕ) → 256 ≤ q → w < 256 → same q w ≡ 0
marked q w big small = same-else q w (λ e. omega arith)

pub by_less : {A : Type 0} (x y : ℕ) → (x < y → A) → (y ≤ x → A) → A
by_less x zero f g = g (omega arith)
by_less zero (suc y) f g = f (omega arith)
by_less (suc x) (suc y) f g = by_less x y (λ l. f (omega arith)) (λ l. g (omega arith))
