-- The order of numbered rows by key, in one key the newest first; rows that stand so are known by their numbers.
use Rattle.std.proofs.Common.{◌≡◌, ℕ, suc, ◌<◌, ◌≤◌, ◌+◌, ◌-◌, inl, inr, Bool, true, false, cond, ◌&&◌, ◌||◌, eqb, nat_lt, List, [], ◌∷◌, length, reverse, get_or, slice_get, Some, refl, sym, ap, subst, ◌∙◌, arith, Bor}
use Rattle.std.specs.declared.cmp.Ordering.{Ordering}
use Rattle.std.specs.declared.cmp.Ordering.TheVariants.{Less, Equal, Greater}
use Rattle.std.specs.Ordering.{nat_cmp, is_lt, is_eq, ordering_then}
use Rattle.std.specs.Cmp.{IsStrictWeakOrder}
use Rattle.std.specs.Cmp.Lexicographic.{slice_cmp}
use Rattle.std.specs.List.{filter, sum_by, AllByRecursion}
use Rattle.std.specs.List.Sorted.{IsPermutation, IsSortedBy}
use Rattle.std.proofs.lemmas.Bool.{cases_Bool, or_cases, or_parts, and_parts, eq-eqb, ne_eqb, ltb-true, ltb-false, both_ways}
use Rattle.std.proofs.lemmas.List.Sums.{sum_by-cons}
use Rattle.std.proofs.lemmas.List.Elements.{All-from_recursion, recursion_from_All}
use Rattle.std.proofs.lemmas.List.Sorted.{sum_by-IsPermutation, All-permutation, IsPermutation-reverse}
use Rattle.std.proofs.Math.Numerals.{add-one}
use Rattle.sv_model.specs.declared.writes.Row.{Row}
use Rattle.sv_model.specs.declared.writes.Numbered.{Numbered}
use Rattle.sv_model.specs.Journal.{same_key}
use Rattle.sv_model.specs.Order.{is_below, comes_before, RisesFrom, RisesBy, key_of_numbered, number_of}
use Rattle.sv_model.specs.Flat.{numbered_after}
use Rattle.sv_model.proofs.KeyOrder.{not_true, same_eq, same_yes, same_no, below_trans, below_other, above, not_back}
use Rattle.sv_model.proofs.FlatFirsts.{has_key, NumbersFall, numbers_fall, numbers_filter}
use Rattle.sv_model.proofs.FlatKeys.{not_below_trans}
use Rattle.sv_merge.specs.Building.{is_ahead}

-- ---- the test

lt_cmp : (m n : ℕ) → is_lt (nat_cmp m n) ≡ nat_lt m n
lt_cmp m n = at (nat_lt m n) (eqb m n)
  where
    at : (b c : Bool) → is_lt (cond b Less (cond c Equal Greater)) ≡ b
    at true c = refl
    at false true = refl
    at false false = refl

lt_then : (o p : Ordering) → is_lt (ordering_then o p) ≡ (is_lt o || (is_eq o && is_lt p))
lt_then Less p = refl
lt_then Equal p = refl
lt_then Greater p = refl

abbrev before : Numbered → Numbered → Bool
before a b = comes_before key_of_numbered number_of a b

ahead_before : (a b : Numbered) → is_ahead a b ≡ before a b
ahead_before a b =
    lt_then (slice_cmp nat_cmp a.row.key b.row.key) (nat_cmp b.number a.number)
    ∙ ap (λ (t : Bool). is_below a.row.key b.row.key || (same_key a.row.key b.row.key && t)) (lt_cmp b.number a.number)

-- neither is below the other
level : (a b : List ℕ) → is_below a b ≡ false → is_below b a ≡ false → same_key a b ≡ true
level a b p q = elim (cases_Bool (same_key a b)) [ inl same ↦ same | inr other ↦ absurd (both_ways (is_below a b) p (above a b q other)) ]

one_way : (x y : Numbered) → before x y ≡ true → before y x ≡ false
one_way x y h = not_true (before y x) (λ t. elim (or_cases (is_below x.row.key y.row.key) (same_key x.row.key y.row.key && nat_lt y.number x.number) h) [
  | inl low ↦ elim (or_cases (is_below y.row.key x.row.key) (same_key y.row.key x.row.key && nat_lt x.number y.number) t) [
    | inl back ↦ both_ways (is_below y.row.key x.row.key) (not_back x.row.key y.row.key low) back
    | inr both ↦ below_other x.row.key y.row.key low (sym (same_eq y.row.key x.row.key (and_parts (same_key y.row.key x.row.key) (nat_lt x.number y.number) both).0))
  ]
  | inr both ↦
      let parts = and_parts (same_key x.row.key y.row.key) (nat_lt y.number x.number) both in
      elim (or_cases (is_below y.row.key x.row.key) (same_key y.row.key x.row.key && nat_lt x.number y.number) t) [
        | inl back ↦ below_other y.row.key x.row.key back (sym (same_eq x.row.key y.row.key parts.0))
        | inr too ↦
            let more = ltb-true x.number y.number (and_parts (same_key y.row.key x.row.key) (nat_lt x.number y.number) too).1 in
            let less = ltb-true y.number x.number parts.1 in
            omega arith
      ]
])

-- where one does not come before another of the same key its number is not greater
not_greater : (x y : Numbered) → before x y ≡ false → same_key x.row.key y.row.key ≡ true → x.number ≤ y.number
not_greater x y h same =
    let apart = (or_parts (is_below x.row.key y.row.key) (same_key x.row.key y.row.key && nat_lt y.number x.number) h).1 in
    ltb-false y.number x.number (sym (ap (λ (t : Bool). t && nat_lt y.number x.number) same) ∙ apart)

not_lower : (x y : Numbered) → before x y ≡ false → is_below x.row.key y.row.key ≡ false
not_lower x y h = (or_parts (is_below x.row.key y.row.key) (same_key x.row.key y.row.key && nat_lt y.number x.number) h).0

chain : (x y z : Numbered) → before x y ≡ false → before y z ≡ false → before x z ≡ false
chain x y z p q =
    let far : is_below x.row.key z.row.key ≡ false = not_below_trans x.row.key y.row.key z.row.key (not_lower x y p) (not_lower y z q) in
    not_true (before x z) (λ t. elim (or_cases (is_below x.row.key z.row.key) (same_key x.row.key z.row.key && nat_lt z.number x.number) t) [
      | inl low ↦ both_ways (is_below x.row.key z.row.key) far low
      | inr both ↦
          let parts = and_parts (same_key x.row.key z.row.key) (nat_lt z.number x.number) both in
          let e = same_eq x.row.key z.row.key parts.0 in
          let first : same_key x.row.key y.row.key ≡ true = level x.row.key y.row.key (not_lower x y p) (subst (λ (k : List ℕ). is_below y.row.key k ≡ false) (sym e) (not_lower y z q)) in
          let second : same_key y.row.key z.row.key ≡ true = same_yes y.row.key z.row.key (sym (same_eq x.row.key y.row.key first) ∙ e) in
          let less = ltb-true z.number x.number parts.1 in
          omega (arith, not_greater x y p first, not_greater y z q second, less)
    ])

pub ahead_weak : IsStrictWeakOrder is_ahead
ahead_weak = record {
  one_way = λ x y h. ahead_before y x ∙ one_way x y (sym (ahead_before x y) ∙ h);
  chain = λ x y z p q. ahead_before x z ∙ chain x y z (sym (ahead_before x y) ∙ p) (sym (ahead_before y z) ∙ q);
}

pub ahead_weak_refs : IsStrictWeakOrder (λ (x y : Bor Numbered). is_ahead x.now y.now)
ahead_weak_refs = record {
  one_way = λ x y h. ahead_weak.one_way x.now y.now h;
  chain = λ x y z p q. ahead_weak.chain x.now y.now z.now p q;
}

-- ---- rows in that order

abbrev pub StandFrom : Numbered → List Numbered → Type 0
StandFrom x [] = Unit {0}
StandFrom x (y ∷ rows) = (before y x ≡ false) × StandFrom y rows

abbrev pub Stand : List Numbered → Type 0
Stand [] = Unit {0}
Stand (x ∷ rows) = StandFrom x rows

stand_from : (x : Numbered) (rows : List Numbered)
    → ((k : ℕ) (d : Numbered) → suc k < length (x ∷ rows) → is_ahead (get_or (x ∷ rows) (suc k) d) (get_or (x ∷ rows) k d) ≡ false)
    → StandFrom x rows
stand_from x [] h = tt
stand_from x (y ∷ rows) h = (sym (ahead_before y x) ∙ h 0 x (omega arith), stand_from y rows (λ k d lt. h (suc k) d (omega arith)))

pub stand : (rows : List Numbered) → IsSortedBy is_ahead rows → Stand rows
stand [] up = tt
stand (x ∷ rows) up = stand_from x rows (λ k d lt. subst (λ (j : ℕ). is_ahead (get_or (x ∷ rows) j d) (get_or (x ∷ rows) k d) ≡ false) (add-one k) (up k d (omega arith) (omega arith)))

stand_rises_from : (x : Numbered) (rows : List Numbered) → StandFrom x rows → RisesFrom key_of_numbered x rows
stand_rises_from x [] up = tt
stand_rises_from x (y ∷ rows) up = (not_lower y x up.0, stand_rises_from y rows up.1)

pub stand_rises : (rows : List Numbered) → Stand rows → RisesBy key_of_numbered rows
stand_rises [] up = tt
stand_rises (x ∷ rows) up = stand_rises_from x rows up

no_key : (key : List ℕ) (n : Numbered) (rows : List Numbered) → has_key key n ≡ false
    → filter (has_key key) (n ∷ rows) ≡ filter (has_key key) rows
no_key key n rows e = ap (λ (b : Bool). cond b (n ∷ filter (has_key key) rows) (filter (has_key key) rows)) e

own_key : (key : List ℕ) (n : Numbered) (rows : List Numbered) → has_key key n ≡ true
    → filter (has_key key) (n ∷ rows) ≡ n ∷ filter (has_key key) rows
own_key key n rows e = ap (λ (b : Bool). cond b (n ∷ filter (has_key key) rows) (filter (has_key key) rows)) e

none_behind : (key : List ℕ) (x : Numbered) (rows : List Numbered) → is_below key x.row.key ≡ true → StandFrom x rows
    → filter (has_key key) rows ≡ []
none_behind key x [] high up = refl
none_behind key x (y ∷ rows) high up =
    let higher : is_below key y.row.key ≡ true = elim (cases_Bool (same_key x.row.key y.row.key)) [
      | inl same ↦ subst (λ (k : List ℕ). is_below key k ≡ true) (same_eq x.row.key y.row.key same) high
      | inr other ↦ below_trans key x.row.key y.row.key high (above x.row.key y.row.key (not_lower y x up.0) other)
    ] in
    no_key key y rows (same_no key y.row.key (below_other key y.row.key higher)) ∙ none_behind key y rows higher up.1

-- in one key the numbers do not rise
key_falls : (low : ℕ) (key : List ℕ) (x : Numbered) (rows : List Numbered) → has_key key x ≡ true → StandFrom x rows
    → AllByRecursion (λ n. low < n.number) rows → NumbersFall low x.number (filter (has_key key) rows)
key_falls low key x [] own up all = tt
key_falls low key x (y ∷ rows) own up all = elim (cases_Bool (has_key key y)) [
  | inl same ↦
      let e : same_key y.row.key x.row.key ≡ true = same_yes y.row.key x.row.key (sym (same_eq key y.row.key same) ∙ same_eq key x.row.key own) in
      subst (NumbersFall low x.number) (sym (own_key key y rows same)) (not_greater y x up.0 e, all.0, key_falls low key y rows same up.1 all.1)
  | inr other ↦
      let high : is_below key y.row.key ≡ true = above key y.row.key (subst (λ (k : List ℕ). is_below y.row.key k ≡ false) (sym (same_eq key x.row.key own)) (not_lower y x up.0)) other in
      subst (NumbersFall low x.number) (sym (no_key key y rows other ∙ none_behind key y rows high up.1)) tt
]

stand_rest : (x : Numbered) (rows : List Numbered) → StandFrom x rows → Stand rows
stand_rest x [] up = tt
stand_rest x (y ∷ rows) up = up.1

all_falls : (low high : ℕ) (key : List ℕ) (rows : List Numbered) → Stand rows
    → AllByRecursion (λ n. (low < n.number) × (n.number ≤ high)) rows
    → NumbersFall low high (filter (has_key key) rows)
all_falls low high key [] up all = tt
all_falls low high key (x ∷ rows) up all = elim (cases_Bool (has_key key x)) [
  | inl same ↦ subst (NumbersFall low high) (sym (own_key key x rows same)) (all.0.1, all.0.0, key_falls low key x rows same up (lows rows all.1))
  | inr other ↦ subst (NumbersFall low high) (sym (no_key key x rows other)) (all_falls low high key rows (stand_rest x rows up) all.1)
]
  where
    lows : (rows : List Numbered) → AllByRecursion (λ n. (low < n.number) × (n.number ≤ high)) rows
        → AllByRecursion (λ n. low < n.number) rows
    lows [] all = tt
    lows (y ∷ rows) all = (all.0.0, lows rows all.1)

-- ---- rows whose numbers do not rise are the same where each number stands as often

abbrev has_number : ℕ → Numbered → ℕ
has_number m n = cond (eqb n.number m) 1 0

abbrev often : ℕ → List Numbered → ℕ
often m rows = sum_by (has_number m) rows

own_number : (n : Numbered) → has_number n.number n ≡ 1
own_number n = ap (λ (b : Bool). cond b 1 0) (eq-eqb n.number n.number refl)

other_number : (m : ℕ) (n : Numbered) → (n.number ≡ m → ⊥) → has_number m n ≡ 0
other_number m n apart = ap (λ (b : Bool). cond b 1 0) (ne_eqb n.number m apart)

often_low : (low high m : ℕ) (rows : List Numbered) → NumbersFall low high rows → high < m → often m rows ≡ 0
often_low low high m [] fall lt = refl
often_low low high m (n ∷ rows) fall lt =
    let apart = other_number m n (λ e. omega (arith, e, fall.0)) in
    omega (arith, sum_by-cons (has_number m) n rows, apart, often_low low n.number m rows fall.2 (omega (arith, fall.0)))

not_less : (low high : ℕ) (x y : Numbered) (xs ys : List Numbered) → NumbersFall low high (y ∷ ys)
    → often x.number (x ∷ xs) ≡ often x.number (y ∷ ys) → x.number ≤ y.number
not_less low high x y xs ys fall same =
    let some : often x.number (x ∷ xs) ≡ 1 + often x.number xs = sum_by-cons (has_number x.number) x xs ∙ ap (λ (k : ℕ). k + often x.number xs) (own_number x) in
    elim (cases_Bool (nat_lt y.number x.number)) [
      | inl less ↦ absurd (omega (arith, some, same, often_low low y.number x.number (y ∷ ys) (omega arith, fall.1, fall.2) (ltb-true y.number x.number less)))
      | inr more ↦ ltb-false y.number x.number more
    ]

module _ (P : Numbered → Type 0) (one : (a b : Numbered) → P a → P b → a.number ≡ b.number → a ≡ b) (low : ℕ) where
  pub same_falling : (high most : ℕ) (xs ys : List Numbered) → NumbersFall low high xs → NumbersFall low most ys
      → AllByRecursion P xs → AllByRecursion P ys → ((m : ℕ) → often m xs ≡ often m ys) → xs ≡ ys
  same_falling high most [] [] fall falls all alls same = refl
  same_falling high most [] (y ∷ ys) fall falls all alls same = absurd (omega (arith, same y.number, sum_by-cons (has_number y.number) y ys, own_number y))
  same_falling high most (x ∷ xs) [] fall falls all alls same = absurd (omega (arith, same x.number, sum_by-cons (has_number x.number) x xs, own_number x))
  same_falling high most (x ∷ xs) (y ∷ ys) fall falls all alls same =
      let left = not_less low most x y xs ys falls (same x.number) in
      let right = not_less low high y x ys xs fall (sym (same y.number)) in
      let head : x ≡ y = one x y all.0 alls.0 (omega arith) in
      let rest : xs ≡ ys = same_falling x.number y.number xs ys fall.2 falls.2 all.1 alls.1 (λ m.
      let e = ap (has_number m) head in omega (arith, same m, e, sum_by-cons (has_number m) x xs, sum_by-cons (has_number m) y ys)) in
      (λ i. head i ∷ rest i)

-- ---- the writes of a range

-- the row is the write of its number
abbrev IsNumbered : ℕ → List Row → Numbered → Type 0
IsNumbered from all n = (from < n.number) × (n.number ≤ from + length all) × (slice_get all (n.number - suc from) ≡ Some n.row)

some_rows : (x y : Row) → Some x ≡ Some y → x ≡ y
some_rows x y e = cc

one_numbered : (from : ℕ) (all : List Row) (a b : Numbered) → IsNumbered from all a → IsNumbered from all b
    → a.number ≡ b.number → a ≡ b
one_numbered from all a b p q e =
    let row : a.row ≡ b.row = some_rows a.row b.row (sym p.2 ∙ ap (λ (k : ℕ). slice_get all (k - suc from)) e ∙ q.2) in
    (λ i. record { number = e i; row = row i })

numbered_from : (from : ℕ) (all : List Row) (before k : ℕ) (rest : List Row) → before ≡ from + k
    → k + length rest ≡ length all → ((i : ℕ) → slice_get rest i ≡ slice_get all (k + i))
    → AllByRecursion (IsNumbered from all) (numbered_after before rest)
numbered_from from all before k [] is len at = tt
numbered_from from all before k (w ∷ rest) is len at =
    let here : suc before - suc from ≡ k + 0 = omega (arith, is) in (
      (omega (arith, is), omega (arith, is, len), ap (slice_get all) here ∙ sym (at 0)),
      numbered_from from all (suc before) (suc k) rest (omega (arith, is)) (omega (arith, len)) (λ i. at (suc i) ∙ ap (slice_get all) (let e : k + suc i ≡ suc k + i = omega arith in e)),
    )

are_numbered : (from : ℕ) (all : List Row) → AllByRecursion (IsNumbered from all) (numbered_after from all)
are_numbered from all = numbered_from from all from 0 all (omega arith) (omega arith) (λ i. ap (slice_get all) (let e : i ≡ 0 + i = omega arith in e))

-- how often a number stands in the rows of a key
abbrev has_both : List ℕ → ℕ → Numbered → ℕ
has_both key m n = cond (has_key key n) (has_number m n) 0

often_key : (key : List ℕ) (m : ℕ) (rows : List Numbered)
    → often m (filter (has_key key) rows) ≡ sum_by (has_both key m) rows
often_key key m [] = refl
often_key key m (n ∷ rows) = at (has_key key n) (often_key key m rows) ∙ sym (sum_by-cons (has_both key m) n rows)
  where
    at : (b : Bool) → often m (filter (has_key key) rows) ≡ sum_by (has_both key m) rows
        → often m (cond b (n ∷ filter (has_key key) rows) (filter (has_key key) rows)) ≡ cond b (has_number m n) 0 + sum_by (has_both key m) rows
    at true h = sum_by-cons (has_number m) n (filter (has_key key) rows) ∙ ap (λ (k : ℕ). has_number m n + k) h
    at false h = omega (arith, h)

all_filter : (P : Numbered → Type 0) (p : Numbered → Bool) (rows : List Numbered) → AllByRecursion P rows
    → AllByRecursion P (filter p rows)
all_filter P p [] all = tt
all_filter P p (n ∷ rows) all = at (p n) (all_filter P p rows all.1)
  where
    at : (b : Bool) → AllByRecursion P (filter p rows) → AllByRecursion P (cond b (n ∷ filter p rows) (filter p rows))
    at true h = (all.0, h)
    at false h = h

-- The rows of a key, where all stand by key and in one key the newest first, are its writes, the newest first.
pub newest_rows : (from : ℕ) (writes : List Row) (rows : List Numbered)
    → IsPermutation (numbered_after from writes) rows → Stand rows → (key : List ℕ)
    → filter (has_key key) rows ≡ filter (has_key key) (reverse (numbered_after from writes))
newest_rows from writes rows permuted up key =
    let numbered = numbered_after from writes in
    let P = IsNumbered from writes in
    let base = All-from_recursion P numbered (are_numbered from writes) in
    let all : AllByRecursion P rows = recursion_from_All P rows (All-permutation P numbered rows permuted base) in
    let alls : AllByRecursion P (reverse numbered) = recursion_from_All P (reverse numbered) (All-permutation P numbered (reverse numbered) (IsPermutation-reverse numbered) base) in
    let to = from + length writes in
    same_falling P (one_numbered from writes) from to to (filter (has_key key) rows) (filter (has_key key) (reverse numbered))
    (all_falls from to key rows up (bounds rows all))
    (numbers_filter (has_key key) from to (reverse numbered) (numbers_fall from writes from to (omega arith) (omega arith)))
    (all_filter P (has_key key) rows all) (all_filter P (has_key key) (reverse numbered) alls)
    (λ m. often_key key m rows ∙ sum_by-IsPermutation (has_both key m) numbered rows permuted ∙ sym (sum_by-IsPermutation (has_both key m) numbered (reverse numbered) (IsPermutation-reverse numbered)) ∙ sym (often_key key m (reverse numbered)))
  where
    bounds : (rows : List Numbered) → AllByRecursion (IsNumbered from writes) rows
        → AllByRecursion (λ n. (from < n.number) × (n.number ≤ from + length writes)) rows
    bounds [] all = tt
    bounds (n ∷ rows) all = ((all.0.0, all.0.1), bounds rows all.1)
