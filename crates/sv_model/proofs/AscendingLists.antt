-- Numbers in ascending order: a list that rises is the one of its numbers.
use Rattle.std.proofs.Common.{◌≡◌, ◌≢◌, ℕ, zero, suc, ◌+◌, ◌<◌, ◌≤◌, ◌⊎◌, inl, inr, ⊎_elim, ◌↔◌, Bool, true, false, cond, List, [], ◌∷◌, length, get_or, Some, slice_get, refl, sym, ap, subst, ◌∙◌, arith}
use Rattle.std.specs.Prelude.{nat_lt}
use Rattle.std.specs.List.Sorted.{IsStrictlyIncreasing}
use Rattle.std.proofs.lemmas.Map.Keys.{below_from_sorted, sorted_from_strictly_increasing}
use Rattle.std.proofs.lemmas.Option.{slice_get_within, get_or_from_slice_get}
use Rattle.sv_model.specs.Lists.{In, Distinct}
use Rattle.sv_model.specs.Summaries.{place_number, ascending}

-- ---- what stands in a list
pub in-here : (x : ℕ) (xs : List ℕ) → In x (x ∷ xs)
in-here x xs = record { at = 0; is = refl }

pub in-later : (n x : ℕ) (xs : List ℕ) → In n xs → In n (x ∷ xs)
in-later n x xs h = record { at = suc h.at; is = h.is }

pub in_cons : (n x : ℕ) (xs : List ℕ) → In n (x ∷ xs) → (n ≡ x) ⊎ In n xs
in_cons n x xs h = by h.at h.is
  where
    by : (k : ℕ) → slice_get (x ∷ xs) k ≡ Some n → (n ≡ x) ⊎ In n xs
    by zero e = inl (let q : x ≡ n = cc in sym q)
    by (suc k) e = inr (record { at = k; is = e })

pub in_none : (n : ℕ) → In n [] → ⊥
in_none n h = absurd (let e = h.is in cc)

-- ---- lists that rise
abbrev pub Above : ℕ → List ℕ → Type 0
Above x xs = (n : ℕ) → In n xs → x < n

abbrev pub Rises : List ℕ → Type 0
Rises [] = Unit {0}
Rises (x ∷ xs) = Above x xs × Rises xs

pub rises_from : (xs : List ℕ) → IsStrictlyIncreasing xs → Rises xs
rises_from [] h = tt
rises_from (x ∷ xs) h = (above, rises_from xs (λ k lt. (let g = h (suc k) (omega (arith, lt)) in subst (λ m. get_or xs k 0 < get_or (x ∷ xs) m 0) (let q : suc k + 1 ≡ suc (k + 1) = omega arith in q) g)))
  where
    above : Above x xs
    above n i =
        let within = slice_get_within xs i.at n i.is in
        let below = below_from_sorted (x ∷ xs) 0 (suc i.at) 0 (sorted_from_strictly_increasing (x ∷ xs) h) (omega arith) (omega arith) in
        let is = get_or_from_slice_get xs i.at n 0 i.is in
        omega (arith, below, is)

-- two of them with the same numbers are one
rising-same : (xs ys : List ℕ) → Rises xs → Rises ys → ((n : ℕ) → In n xs ↔ In n ys) → xs ≡ ys
rising-same [] [] p q both = refl
rising-same [] (y ∷ ys) p q both = absurd (in_none y ((both y).1 (in-here y ys)))
rising-same (x ∷ xs) [] p q both = absurd (in_none x ((both x).0 (in-here x xs)))
rising-same (x ∷ xs) (y ∷ ys) p q both =
    let head : x ≡ y = ⊎_elim
    (λ e. e)
    (λ there. ⊎_elim
    (λ e. sym e)
    (λ here. (let a = q.0 x there in let b = p.0 y here in absurd (omega arith)))
    (in_cons y x xs ((both y).1 (in-here y ys))))
    (in_cons x y ys ((both x).0 (in-here x xs))) in
    let tail : xs ≡ ys = rising-same xs ys p.1 q.1 (λ n. (
      (λ i. ⊎_elim (λ e. (let a = p.0 n i in absurd (omega arith))) (λ j. j) (in_cons n y ys ((both n).0 (in-later n x xs i)))),
      (λ i. ⊎_elim (λ e. (let a = q.0 n i in absurd (omega arith))) (λ j. j) (in_cons n x xs ((both n).1 (in-later n y ys i)))),
    )) in
    (λ i. head i ∷ tail i)

-- ---- a number at its place
place_cases : (x y : ℕ) → ((nat_lt x y ≡ true) × (x < y)) ⊎ ((nat_lt x y ≡ false) × (y ≤ x))
place_cases x y = grind arith

in_place : (n x : ℕ) (ys : List ℕ) → In n (place_number x ys) → (n ≡ x) ⊎ In n ys
in_place n x [] h = in_cons n x [] h
in_place n x (y ∷ ys) h = ⊎_elim
    (λ lt. in_cons n x (y ∷ ys) (subst (λ b. In n (cond b (x ∷ y ∷ ys) (y ∷ place_number x ys))) lt.0 h))
    (λ le. ⊎_elim
    (λ e. inr (record { at = 0; is = ap Some (sym e) }))
    (λ i. ⊎_elim (λ e. inl e) (λ j. inr (in-later n y ys j)) (in_place n x ys i))
    (in_cons n y (place_number x ys) (subst (λ b. In n (cond b (x ∷ y ∷ ys) (y ∷ place_number x ys))) le.0 h)))
    (place_cases x y)

place-in : (n x : ℕ) (ys : List ℕ) → (n ≡ x) ⊎ In n ys → In n (place_number x ys)
place-in n x [] h = ⊎_elim (λ e. record { at = 0; is = ap Some (sym e) }) (λ i. absurd (in_none n i)) h
place-in n x (y ∷ ys) h = ⊎_elim
    (λ lt. subst (λ b. In n (cond b (x ∷ y ∷ ys) (y ∷ place_number x ys))) (sym lt.0) (⊎_elim (λ e. record { at = 0; is = ap Some (sym e) }) (λ i. in-later n x (y ∷ ys) i) h))
    (λ le. subst (λ b. In n (cond b (x ∷ y ∷ ys) (y ∷ place_number x ys))) (sym le.0) (⊎_elim
    (λ e. in-later n y (place_number x ys) (place-in n x ys (inl e)))
    (λ i. ⊎_elim (λ e. record { at = 0; is = ap Some (sym e) }) (λ j. in-later n y (place_number x ys) (place-in n x ys (inr j))) (in_cons n y ys i))
    h))
    (place_cases x y)

place_rises : (x : ℕ) (ys : List ℕ) → Rises ys → (In x ys → ⊥) → Rises (place_number x ys)
place_rises x [] h apart = ((λ n i. absurd (in_none n i)), tt)
place_rises x (y ∷ ys) h apart = ⊎_elim
    (λ lt. subst (λ b. Rises (cond b (x ∷ y ∷ ys) (y ∷ place_number x ys))) (sym lt.0)
    ((λ n i. ⊎_elim (λ e. (let q = lt.1 in omega arith)) (λ j. (let a = h.0 n j in let q = lt.1 in omega arith)) (in_cons n y ys i)), h))
    (λ le. subst (λ b. Rises (cond b (x ∷ y ∷ ys) (y ∷ place_number x ys))) (sym le.0) (
      (λ n i. ⊎_elim
          (λ e. (let other : y ≢ x = λ q. apart (record { at = 0; is = ap Some q }) in let q = le.1 in omega arith))
          (λ j. h.0 n j)
          (in_place n x ys i)),
      place_rises x ys h.1 (λ i. apart (in-later x y ys i)),
    ))
    (place_cases x y)

-- ---- all numbers at their places
in_ascending : (n : ℕ) (l : List ℕ) → In n (ascending l) ↔ In n l
in_ascending n [] = ((λ i. i), (λ i. i))
in_ascending n (x ∷ l) =
    let rest = in_ascending n l in (
      (λ i. ⊎_elim (λ e. record { at = 0; is = ap Some (sym e) }) (λ j. in-later n x l (rest.0 j)) (in_place n x (ascending l) i)),
      (λ i. place-in n x (ascending l) (⊎_elim (λ e. inl e) (λ j. inr (rest.1 j)) (in_cons n x l i))),
    )

distinct_rest : (x : ℕ) (l : List ℕ) → Distinct (x ∷ l) → Distinct l
distinct_rest x l h i j n a b = (let q : suc i ≡ suc j = h (suc i) (suc j) n a b in omega arith)

distinct_head : (x : ℕ) (l : List ℕ) → Distinct (x ∷ l) → In x l → ⊥
distinct_head x l h i = (let q : 0 ≡ suc i.at = h 0 (suc i.at) x refl i.is in absurd (omega arith))

ascending_rises : (l : List ℕ) → Distinct l → Rises (ascending l)
ascending_rises [] once = tt
ascending_rises (x ∷ l) once =
    place_rises x (ascending l) (ascending_rises l (distinct_rest x l once)) (λ i. distinct_head x l once ((in_ascending x l).0 i))

-- A list that rises and has just these numbers is they in ascending order.
pub ascending_one : (l given : List ℕ) → Distinct l → IsStrictlyIncreasing given → ((n : ℕ) → In n given ↔ In n l) → given ≡ ascending l
ascending_one l given once rising both =
    rising-same given (ascending l) (rises_from given rising) (ascending_rises l once) (λ n. (
      (λ i. (in_ascending n l).1 ((both n).0 i)),
      (λ i. (both n).1 ((in_ascending n l).0 i)),
    ))

length-place : (x : ℕ) (ys : List ℕ) → length (place_number x ys) ≡ suc (length ys)
length-place x [] = refl
length-place x (y ∷ ys) = by (nat_lt x y) (length-place x ys)
  where
    by : (b : Bool) → length (place_number x ys) ≡ suc (length ys) → length (cond b (x ∷ y ∷ ys) (y ∷ place_number x ys)) ≡ suc (suc (length ys))
    by true rest = refl
    by false rest = ap suc rest

-- as many as before
pub length-ascending : (l : List ℕ) → length (ascending l) ≡ length l
length-ascending [] = refl
length-ascending (x ∷ l) = length-place x (ascending l) ∙ ap suc (length-ascending l)
