-- Numbers in ascending order: what a search finds, and what an insert and a removal leave.
use Rattle.std.proofs.Common.{◌≡◌, ◌≢◌, ℕ, zero, suc, ◌+◌, ◌-◌, ◌<◌, ◌≤◌, ◌⊎◌, inl, inr, ⊎_elim, ◌↔◌, List, [], ◌∷◌, length, get_or, take, Some, Result, Ok, Err, arith, refl, sym, ap, ◌∙◌, MatchResult}
use Rattle.std.specs.List.{insert, remove}
use Rattle.std.specs.List.Sorted.{IsStrictlyIncreasing, IsBinarySearchResult}
use Rattle.std.specs.Ordering.{nat_cmp}
use Rattle.std.proofs.lemmas.List.Edits.{length-insert, get_or-insert_below, get_or-insert_at, get_or-insert_above, length-remove, get_or-remove_below, get_or-remove_above}
use Rattle.std.proofs.lemmas.List.Sorted.{searched}
use Rattle.std.proofs.lemmas.Map.Keys.{below_from_sorted, sorted_from_strictly_increasing}
use Rattle.std.proofs.lemmas.Option.{slice_get_within, slice_get-get_or, get_or_from_slice_get}
use Rattle.sv_model.specs.Lists.{In}

-- ---- what stands in a list, by places
pub in_at : (n : ℕ) (xs : List ℕ) → In n xs → (k : ℕ) × (k < length xs) × (get_or xs k 0 ≡ n)
in_at n xs h = (h.at, slice_get_within xs h.at n h.is, get_or_from_slice_get xs h.at n 0 h.is)

pub at_in : (n : ℕ) (xs : List ℕ) (k : ℕ) → k < length xs → get_or xs k 0 ≡ n → In n xs
at_in n xs k within is = record { at = k; is = slice_get-get_or xs k 0 within ∙ ap Some is }

-- ---- each is below all after it
pub rising_far : (xs : List ℕ) (i j : ℕ) → IsStrictlyIncreasing xs → i < j → j < length xs → get_or xs i 0 < get_or xs j 0
rising_far xs i j h before within = below_from_sorted xs i j 0 (sorted_from_strictly_increasing xs h) before within

rising-le : (xs : List ℕ) → IsStrictlyIncreasing xs → (i j : ℕ) → i ≤ j → j < length xs → get_or xs i 0 ≤ get_or xs j 0
rising-le xs h i j le within =
    let cases : (i < j) ⊎ (i ≡ j) = grind arith in
    ⊎_elim (λ lt. (let q = rising_far xs i j h lt within in omega arith)) (λ e. (let q = ap (λ k. get_or xs k 0) e in omega arith)) cases

pub rising_apart : (xs : List ℕ) (i j : ℕ) → IsStrictlyIncreasing xs → i < length xs → j < length xs → get_or xs i 0 ≡ get_or xs j 0 → i ≡ j
rising_apart xs i j h wi wj e =
    let cases : (i < j) ⊎ ((j < i) ⊎ (i ≡ j)) = grind arith in
    ⊎_elim (λ lt. (let q = rising_far xs i j h lt wj in absurd (omega arith)))
    (⊎_elim (λ lt. (let q = rising_far xs j i h lt wi in absurd (omega arith))) (λ q. q)) cases

-- ---- a search
abbrev pub Searches : List ℕ → ℕ → Result ℕ ℕ → Type 0
Searches xs x r = MatchResult r
    (λ i. (i < length xs) × (get_or xs i 0 ≡ x))
    (λ i. (i ≤ length xs) × ((k : ℕ) → k < i → get_or xs k 0 < x) × ((k : ℕ) → i ≤ k → k < length xs → x < get_or xs k 0))

pub search-rising : (xs : List ℕ) (x : ℕ) (r : Result ℕ ℕ) → IsStrictlyIncreasing xs → IsBinarySearchResult (λ y. nat_cmp y x) xs r → Searches xs x r
search-rising xs x r h is = searched xs x r is (rising-le xs h)

pub found-in : (xs : List ℕ) (x i : ℕ) → Searches xs x (Ok i) → In x xs
found-in xs x i h = at_in x xs i h.0 h.1

pub missed-in : (xs : List ℕ) (x i : ℕ) → Searches xs x (Err i) → In x xs → ⊥
missed-in xs x i h there =
    let k = in_at x xs there in
    let cases : (k.0 < i) ⊎ (i ≤ k.0) = grind arith in
    ⊎_elim (λ lt. (let q = h.1 k.0 lt in omega arith)) (λ le. (let q = h.2 k.0 le k.1 in omega arith)) cases

-- ---- an insert
module _ (xs : List ℕ) (i x : ℕ) (h : IsStrictlyIncreasing xs) (at : Searches xs x (Err i)) where
  below : (k : ℕ) → k < i → get_or (insert xs i x) k 0 ≡ get_or xs k 0
  below k lt = get_or-insert_below xs i x 0 k lt at.0

  here : get_or (insert xs i x) i 0 ≡ x
  here = get_or-insert_at xs i x 0 at.0

  above : (k : ℕ) → i ≤ k → get_or (insert xs i x) (k + 1) 0 ≡ get_or xs k 0
  above k le = get_or-insert_above xs i x 0 k le at.0

  long : length (insert xs i x) ≡ length xs + 1
  long = length-insert xs i x at.0

  pub insert_rising : IsStrictlyIncreasing (insert xs i x)
  insert_rising k within =
      let cases : (k + 1 < i) ⊎ ((k + 1 ≡ i) ⊎ ((k ≡ i) ⊎ ((j : ℕ) × (k ≡ j + 1) × (i ≤ j)))) = by-place k in
      ⊎_elim (λ lt. (let q = h k (omega (arith, at.0)) in omega (arith, below k (omega arith), below (k + 1) lt)))
      (⊎_elim (λ e. (let q = at.1 k (omega arith) in omega (arith, below k (omega arith), ap (λ m. get_or (insert xs i x) m 0) e, here)))
      (⊎_elim (λ e. (let q = at.2 k (omega arith) (omega (arith, long)) in omega (arith, ap (λ m. get_or (insert xs i x) m 0) e, here, above k (omega arith))))
      (λ j. (let q = h j.0 (omega (arith, j.1, long)) in omega (arith, ap (λ m. get_or (insert xs i x) m 0) j.1, above j.0 j.2, ap (λ m. get_or (insert xs i x) (m + 1) 0) j.1, above (j.0 + 1) (omega (arith, j.2)))))))
      cases
    where
      by-place : (k : ℕ) → (k + 1 < i) ⊎ ((k + 1 ≡ i) ⊎ ((k ≡ i) ⊎ ((j : ℕ) × (k ≡ j + 1) × (i ≤ j))))
      by-place k =
          let cases : (k + 1 < i) ⊎ ((k + 1 ≡ i) ⊎ ((k ≡ i) ⊎ (i < k))) = grind arith in
          ⊎_elim (λ q. inl q) (⊎_elim (λ q. inr (inl q)) (⊎_elim (λ q. inr (inr (inl q))) (λ q. inr (inr (inr (k - 1, omega arith, omega arith)))))) cases

  pub insert_has : In x (insert xs i x)
  insert_has = at_in x (insert xs i x) i (omega (arith, long, at.0)) here

  pub insert-old : (n : ℕ) → In n xs → In n (insert xs i x)
  insert-old n there =
      let k = in_at n xs there in
      let cases : (k.0 < i) ⊎ (i ≤ k.0) = grind arith in
      ⊎_elim (λ lt. at_in n (insert xs i x) k.0 (omega (arith, long, k.1)) (below k.0 lt ∙ k.2))
      (λ le. at_in n (insert xs i x) (k.0 + 1) (omega (arith, long, k.1)) (above k.0 le ∙ k.2)) cases

  pub insert_in : (n : ℕ) → n ≢ x → In n (insert xs i x) → In n xs
  insert_in n apart there =
      let k = in_at n (insert xs i x) there in
      let cases : (k.0 < i) ⊎ ((k.0 ≡ i) ⊎ (i < k.0)) = grind arith in
      ⊎_elim (λ lt. at_in n xs k.0 (omega (arith, at.0)) (sym (below k.0 lt) ∙ k.2))
      (⊎_elim (λ e. absurd (apart (sym k.2 ∙ ap (λ m. get_or (insert xs i x) m 0) e ∙ here)))
      (λ gt. (
      let j : k.0 - 1 + 1 ≡ k.0 = omega arith in
      at_in n xs (k.0 - 1) (omega (arith, long, k.1)) (sym (above (k.0 - 1) (omega arith)) ∙ ap (λ m. get_or (insert xs i x) m 0) j ∙ k.2)))) cases

-- ---- a removal
module _ (xs : List ℕ) (i x : ℕ) (h : IsStrictlyIncreasing xs) (at : Searches xs x (Ok i)) where
  low : (k : ℕ) → k < i → get_or (remove xs i) k 0 ≡ get_or xs k 0
  low k lt = get_or-remove_below xs i 0 k lt at.0

  high : (k : ℕ) → i ≤ k → get_or (remove xs i) k 0 ≡ get_or xs (k + 1) 0
  high k le = get_or-remove_above xs i 0 k le at.0

  short : length (remove xs i) + 1 ≡ length xs
  short = length-remove xs i at.0

  pub remove_rising : IsStrictlyIncreasing (remove xs i)
  remove_rising k within =
      let cases : (k + 1 < i) ⊎ ((k + 1 ≡ i) ⊎ (i ≤ k)) = grind arith in
      ⊎_elim (λ lt. (let q = h k (omega (arith, short)) in omega (arith, low k (omega arith), low (k + 1) lt)))
      (⊎_elim (λ e. (let q = rising_far xs k (k + 1 + 1) h (omega arith) (omega (arith, short)) in omega (arith, low k (omega arith), high (k + 1) (omega arith))))
      (λ le. (let q = h (k + 1) (omega (arith, short)) in omega (arith, high k le, high (k + 1) (omega arith))))) cases

  pub remove_gone : In x (remove xs i) → ⊥
  remove_gone there =
      let k = in_at x (remove xs i) there in
      let cases : (k.0 < i) ⊎ (i ≤ k.0) = grind arith in
      ⊎_elim (λ lt. (let q = rising_apart xs k.0 i h (omega (arith, short, k.1)) at.0 (sym (low k.0 lt) ∙ k.2 ∙ sym at.1) in omega arith))
      (λ le. (let q = rising_apart xs (k.0 + 1) i h (omega (arith, short, k.1)) at.0 (sym (high k.0 le) ∙ k.2 ∙ sym at.1) in omega arith)) cases

  pub remove_in : (n : ℕ) → In n (remove xs i) → In n xs
  remove_in n there =
      let k = in_at n (remove xs i) there in
      let cases : (k.0 < i) ⊎ (i ≤ k.0) = grind arith in
      ⊎_elim (λ lt. at_in n xs k.0 (omega (arith, short, k.1)) (sym (low k.0 lt) ∙ k.2))
      (λ le. at_in n xs (k.0 + 1) (omega (arith, short, k.1)) (sym (high k.0 le) ∙ k.2)) cases

  pub remove-old : (n : ℕ) → n ≢ x → In n xs → In n (remove xs i)
  remove-old n apart there =
      let k = in_at n xs there in
      let cases : (k.0 < i) ⊎ ((k.0 ≡ i) ⊎ (i < k.0)) = grind arith in
      ⊎_elim (λ lt. at_in n (remove xs i) k.0 (omega (arith, short, at.0)) (low k.0 lt ∙ k.2))
      (⊎_elim (λ e. absurd (apart (sym k.2 ∙ ap (λ m. get_or xs m 0) e ∙ at.1)))
      (λ gt. (
      let j : k.0 - 1 + 1 ≡ k.0 = omega arith in
      at_in n (remove xs i) (k.0 - 1) (omega (arith, short, k.1)) (high (k.0 - 1) (omega arith) ∙ ap (λ m. get_or xs m 0) j ∙ k.2)))) cases

-- ---- the numbers below a bound are the first ones
length_take : (xs : List ℕ) (c : ℕ) → (length (take c xs) ≤ c) × (length (take c xs) ≤ length xs)
length_take [] zero = (omega arith, omega arith)
length_take [] (suc c) = (omega arith, omega arith)
length_take (x ∷ xs) zero = (omega arith, omega arith)
length_take (x ∷ xs) (suc c) = let h = length_take xs c in (omega (arith, h.0), omega (arith, h.1))

get_or-take : (xs : List ℕ) (c k : ℕ) → k < c → get_or (take c xs) k 0 ≡ get_or xs k 0
get_or-take [] zero k lt = absurd (omega arith)
get_or-take [] (suc c) k lt = refl
get_or-take (x ∷ xs) zero k lt = absurd (omega arith)
get_or-take (x ∷ xs) (suc c) zero lt = refl
get_or-take (x ∷ xs) (suc c) (suc k) lt = get_or-take xs c k (omega arith)

take_in : (xs : List ℕ) (c n : ℕ) → In n (take c xs) → (k : ℕ) × (k < c) × (k < length xs) × (get_or xs k 0 ≡ n)
take_in xs c n there =
    let k = in_at n (take c xs) there in
    let l = length_take xs c in
    (k.0, omega (arith, k.1), omega (arith, k.1), sym (get_or-take xs c k.0 (omega (arith, k.1))) ∙ k.2)

in-take : (xs : List ℕ) (c n k : ℕ) → k < c → k < length xs → get_or xs k 0 ≡ n → In n (take c xs)
in-take xs c n k lt within is = at_in n (take c xs) k (longer xs c k lt within) (get_or-take xs c k lt ∙ is)
  where
    longer : (xs : List ℕ) (c k : ℕ) → k < c → k < length xs → k < length (take c xs)
    longer [] c k lt within = absurd (omega arith)
    longer (x ∷ xs) zero k lt within = absurd (omega arith)
    longer (x ∷ xs) (suc c) zero lt within = omega arith
    longer (x ∷ xs) (suc c) (suc k) lt within = let h = longer xs c k (omega arith) (omega arith) in omega arith

pub below-ok : (xs : List ℕ) (bound c : ℕ) → IsStrictlyIncreasing xs → Searches xs bound (Ok c) → (n : ℕ) → In n (take c xs) ↔ (In n xs × (n < bound))
below-ok xs bound c h at n = (
  λ there. (let k = take_in xs c n there in (at_in n xs k.0 k.2 k.3, (let q = rising_far xs k.0 c h k.1 at.0 in omega (arith, k.3, at.1)))),
  λ (there, low). (
      let k = in_at n xs there in
      let cases : (k.0 < c) ⊎ (c ≤ k.0) = grind arith in
      ⊎_elim (λ lt. in-take xs c n k.0 lt k.1 k.2) (λ le. (let q = rising-le xs h c k.0 le k.1 in absurd (omega (arith, k.2, at.1)))) cases),
)

pub below-err : (xs : List ℕ) (bound c : ℕ) → IsStrictlyIncreasing xs → Searches xs bound (Err c) → (n : ℕ) → In n (take c xs) ↔ (In n xs × (n < bound))
below-err xs bound c h at n = (
  λ there. (let k = take_in xs c n there in (at_in n xs k.0 k.2 k.3, (let q = at.1 k.0 k.1 in omega (arith, k.3)))),
  λ (there, low). (
      let k = in_at n xs there in
      let cases : (k.0 < c) ⊎ (c ≤ k.0) = grind arith in
      ⊎_elim (λ lt. in-take xs c n k.0 lt k.1 k.2) (λ le. (let q = at.2 k.0 le k.1 in absurd (omega (arith, k.2)))) cases),
)

pub take_rising : (xs : List ℕ) (c : ℕ) → IsStrictlyIncreasing xs → IsStrictlyIncreasing (take c xs)
take_rising xs c h k within =
    let l = length_take xs c in
    omega (arith, h k (omega (arith, l.1)), get_or-take xs c k (omega (arith, l.0)), get_or-take xs c (k + 1) (omega (arith, l.0)))

-- the first of some
pub first-in : (xs : List ℕ) (c : ℕ) → 0 < c → c ≤ length xs → (n : ℕ) × In n (take c xs)
first-in xs c some within = (get_or xs 0 0, in-take xs c (get_or xs 0 0) 0 some (omega arith) refl)
