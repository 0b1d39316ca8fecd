-- The rows of a frozen memtable: what is found among them is what is found among the rows that were added, and their
-- numbers give the added rows back.
use Rattle.std.proofs.Common.{◌≡◌, ◌<◌, ◌≤◌, ℕ, zero, suc, ◌+◌, Bool, true, false, cond, ◌&&◌, ◌==◌, nat_le, nat_lt, List, [], ◌∷◌, ◌++◌, length, take, get_or, Option, Some, None, refl, sym, ap, subst, ◌∙◌, arith, inl, inr, eq-eqb, eqb-true}
use Rattle.std.specs.Prelude.{find, reverse, slice_get, option_map}
use Rattle.std.specs.Option.{option_to_list}
use Rattle.std.specs.List.{AllByRecursion, Contains}
use Rattle.std.proofs.lemmas.Bool.{both_ways, or_cases, or_left, or_right, and_parts, and_from, ltb-true, lt-ltb}
use Rattle.std.proofs.lemmas.List.{reverse-append}
use Rattle.std.proofs.lemmas.List.Elements.{All-from_recursion, All-contains}
use Rattle.std.proofs.lemmas.List.Sorted.{IsPermutation-sym, IsPermutation-reverse, Contains-permutation, length_permutation}
use Rattle.std.proofs.Math.Seq.{take-length}
use Rattle.sv_model.specs.declared.writes.Row.{Row}
use Rattle.sv_model.specs.declared.writes.Numbered.{Numbered}
use Rattle.sv_model.specs.Flat.{numbered_after}
use Rattle.sv_model.specs.Journal.{same_key, newest_row, newest_op}
use Rattle.sv_model.specs.Order.{is_below, comes_before, OrderedFrom, OrderedBy, first_upto, key_of_numbered, number_of}
use Rattle.sv_model.specs.Registers.{entry}
use Rattle.sv_model.proofs.KeyOrder.{same_eq, below_trans, below_other}
use Rattle.sv_model.proofs.FlatLaws.{length_numbered}
use Rattle.sv_model.proofs.SearchLaws.{ordered_rest}
use Rattle.sv_memtable.specs.Freezing.{IsFrozenOf, bearing, added_upto, added_of}
use Rattle.sv_memtable.proofs.NumberedRows.{is_upto, newest_among, LeadsBack, all_lead_back}

-- ---- what holds of each item and each later one

abbrev pub EachPair : {A : Type 0} → (A → A → Type 0) → List A → Type 0
EachPair R [] = Unit {0}
EachPair R (x ∷ xs) = AllByRecursion (R x) xs × EachPair R xs

pub all_weaker : {A : Type 0} (P Q : A → Type 0) → ((x : A) → P x → Q x) → (xs : List A) → AllByRecursion P xs → AllByRecursion Q xs
all_weaker P Q step [] h = tt
all_weaker P Q step (x ∷ xs) h = (step x h.0, all_weaker P Q step xs h.1)

pub pairs_weaker : {A : Type 0} (R S : A → A → Type 0) → ((x y : A) → R x y → S x y) → (xs : List A) → EachPair R xs → EachPair S xs
pairs_weaker R S step [] h = tt
pairs_weaker R S step (x ∷ xs) h = (all_weaker (R x) (S x) (step x) xs h.0, pairs_weaker R S step xs h.1)

pub all_push : {A : Type 0} (P : A → Type 0) (xs : List A) (y : A) → AllByRecursion P xs → P y → AllByRecursion P (xs ++ y ∷ [])
all_push P [] y h p = (p, tt)
all_push P (x ∷ xs) y h p = (h.0, all_push P xs y h.1 p)

pub all_reverse : {A : Type 0} (P : A → Type 0) (xs : List A) → AllByRecursion P xs → AllByRecursion P (reverse xs)
all_reverse P [] h = tt
all_reverse P (x ∷ xs) h = subst (AllByRecursion P) (sym (reverse-append (x ∷ []) xs)) (all_push P (reverse xs) x (all_reverse P xs h.1) h.0)

pairs_push : {A : Type 0} (R : A → A → Type 0) (xs : List A) (y : A) → EachPair R xs → AllByRecursion (λ x. R x y) xs → EachPair R (xs ++ y ∷ [])
pairs_push R [] y h all = (tt, tt)
pairs_push R (x ∷ xs) y h all = (all_push (R x) xs y h.0 all.0, pairs_push R xs y h.1 all.1)

pub pairs_reverse : {A : Type 0} (R : A → A → Type 0) (xs : List A) → EachPair R xs → EachPair (λ x y. R y x) (reverse xs)
pairs_reverse R [] h = tt
pairs_reverse R (x ∷ xs) h =
    subst (EachPair (λ x y. R y x)) (sym (reverse-append (x ∷ []) xs))
    (pairs_push (λ x y. R y x) (reverse xs) x (pairs_reverse R xs h.1) (all_reverse (R x) xs h.0))

-- ---- order

abbrev pub before : Numbered → Numbered → Bool
before a b = comes_before key_of_numbered number_of a b

before_trans : (a b c : Numbered) → before a b ≡ true → before b c ≡ true → before a c ≡ true
before_trans a b c p q =
    let k = key_of_numbered in
    let later = same_key (k a) (k c) && nat_lt c.number a.number in
    elim (or_cases (is_below (k a) (k b)) (same_key (k a) (k b) && nat_lt b.number a.number) p) [
      | inl low ↦ elim (or_cases (is_below (k b) (k c)) (same_key (k b) (k c) && nat_lt c.number b.number) q) [
        | inl next ↦ or_left (is_below (k a) (k c)) later (below_trans (k a) (k b) (k c) low next)
        | inr both ↦
            let same = same_eq (k b) (k c) (and_parts (same_key (k b) (k c)) (nat_lt c.number b.number) both).0 in
            or_left (is_below (k a) (k c)) later (subst (λ (l : List ℕ). is_below (k a) l ≡ true) same low)
      ]
      | inr first ↦
          let here = and_parts (same_key (k a) (k b)) (nat_lt b.number a.number) first in
          let one = same_eq (k a) (k b) here.0 in
          elim (or_cases (is_below (k b) (k c)) (same_key (k b) (k c) && nat_lt c.number b.number) q) [
            | inl next ↦ or_left (is_below (k a) (k c)) later (subst (λ (l : List ℕ). is_below l (k c) ≡ true) (sym one) next)
            | inr both ↦
                let there = and_parts (same_key (k b) (k c)) (nat_lt c.number b.number) both in
                let more = ltb-true b.number a.number here.1 in
                let most = ltb-true c.number b.number there.1 in
                or_right (is_below (k a) (k c)) later
                (and_from (same_key (k a) (k c)) (nat_lt c.number a.number) (subst (λ (l : List ℕ). same_key l (k c) ≡ true) (sym one) there.0) (lt-ltb c.number a.number (omega arith)))
          ]
    ]

all_after : (last : Numbered) (rows : List Numbered) → OrderedFrom key_of_numbered number_of last rows → AllByRecursion (λ y. before last y ≡ true) rows
all_after last [] up = tt
all_after last (x ∷ rows) up = (up.0, all_weaker (λ y. before x y ≡ true) (λ y. before last y ≡ true) (λ y h. before_trans last x y up.0 h) rows (all_after x rows up.1))

ordered_pairs : (rows : List Numbered) → OrderedBy key_of_numbered number_of rows → EachPair (λ x y. before x y ≡ true) rows
ordered_pairs [] up = tt
ordered_pairs (x ∷ rows) up = (all_after x rows up, ordered_pairs rows (ordered_rest key_of_numbered number_of x rows up))

from_pairs : (last : Numbered) (rows : List Numbered) → AllByRecursion (λ y. before last y ≡ true) rows → EachPair (λ x y. before x y ≡ true) rows → OrderedFrom key_of_numbered number_of last rows
from_pairs last [] all h = tt
from_pairs last (x ∷ rows) all h = (all.0, from_pairs x rows h.0 h.1)

pub ordered_from_pairs : (rows : List Numbered) → EachPair (λ x y. before x y ≡ true) rows → OrderedBy key_of_numbered number_of rows
ordered_from_pairs [] h = tt
ordered_from_pairs (x ∷ rows) h = from_pairs x rows h.0 h.1

-- numbers rise among the added rows
later_numbers : (low at : ℕ) (rows : List Row) → low ≤ at → AllByRecursion (λ (n : Numbered). low < n.number) (numbered_after at rows)
later_numbers low at [] h = tt
later_numbers low at (row ∷ rows) h = (omega arith, later_numbers low (suc at) rows (omega arith))

pub added_rise : (at : ℕ) (rows : List Row) → EachPair (λ (x y : Numbered). x.number < y.number) (numbered_after at rows)
added_rise at [] = tt
added_rise at (row ∷ rows) = (later_numbers (suc at) (suc at) rows (omega arith), added_rise (suc at) rows)

-- ---- what a search finds

found_here : (test : Numbered → Bool) (y : Numbered) (ys : List Numbered) (x : Numbered) (b : Bool) → test y ≡ b → cond b (Some y) (find test ys) ≡ Some x → (find test ys ≡ Some x → Contains ys x × (test x ≡ true)) → Contains (y ∷ ys) x × (test x ≡ true)
found_here test y ys x true t e later = let is : y ≡ x = cc in ((0, omega arith, is), ap test (sym is) ∙ t)
found_here test y ys x false t e later = let h = later e in ((suc h.0.0, omega (arith, h.0.1), h.0.2), h.1)

pub found_in : (test : Numbered → Bool) (xs : List Numbered) (x : Numbered) → find test xs ≡ Some x → Contains xs x × (test x ≡ true)
found_in test [] x e = absurd (cc e)
found_in test (y ∷ ys) x e = found_here test y ys x (test y) refl e (found_in test ys x)

missed_here : (test : Numbered → Bool) (y : Numbered) (ys : List Numbered) (b : Bool) → test y ≡ b → cond b (Some y) (find test ys) ≡ None → (b ≡ false) × (find test ys ≡ None)
missed_here test y ys true t e = absurd (cc e)
missed_here test y ys false t e = (refl, e)

missed_at : (test : Numbered → Bool) (xs : List Numbered) (k : ℕ) (x : Numbered) → find test xs ≡ None → k < length xs → get_or xs k x ≡ x → test x ≡ false
missed_at test [] k x e lt is = absurd (omega arith)
missed_at test (y ∷ ys) zero x e lt is = ap test (sym is) ∙ (missed_here test y ys (test y) refl e).0
missed_at test (y ∷ ys) (suc k) x e lt is = missed_at test ys k x (missed_here test y ys (test y) refl e).1 (omega arith) is

pub not_found : (test : Numbered → Bool) (xs : List Numbered) (x : Numbered) → find test xs ≡ None → Contains xs x → test x ≡ false
not_found test xs x e h = missed_at test xs h.0 x e h.1 h.2

-- among items that fall by number where they pass, the first that passes has the greatest number
abbrev Falls : (Numbered → Bool) → Numbered → Numbered → Type 0
Falls test x y = test x ≡ true → test y ≡ true → y.number ≤ x.number

greatest_here : (test : Numbered → Bool) (z : Numbered) (zs : List Numbered) (x : Numbered) (k : ℕ) (y : Numbered) (b : Bool) → test z ≡ b → EachPair (Falls test) (z ∷ zs) → cond b (Some z) (find test zs) ≡ Some x → k < length (z ∷ zs) → get_or (z ∷ zs) k y ≡ y → test y ≡ true
    → (find test zs ≡ Some x → (j : ℕ) → j < length zs → get_or zs j y ≡ y → y.number ≤ x.number) → y.number ≤ x.number
greatest_here test z zs x zero y true t h e lt is p later = let a : z ≡ x = cc in let b : y.number ≡ x.number = ap (λ (n : Numbered). n.number) (sym is ∙ a) in omega arith
greatest_here test z zs x (suc k) y true t h e lt is p later =
    let a : z ≡ x = cc in
    let b : z.number ≡ x.number = ap (λ (n : Numbered). n.number) a in
    let c : y.number ≤ z.number = All-contains (Falls test z) zs y (All-from_recursion (Falls test z) zs h.0) (k, omega arith, is) t p in
    omega arith
greatest_here test z zs x zero y false t h e lt is p later = absurd (both_ways (test z) t (ap test is ∙ p))
greatest_here test z zs x (suc k) y false t h e lt is p later = later e k (omega arith) is

greatest_at : (test : Numbered → Bool) (xs : List Numbered) (x : Numbered) (k : ℕ) (y : Numbered) → EachPair (Falls test) xs → find test xs ≡ Some x → k < length xs → get_or xs k y ≡ y → test y ≡ true → y.number ≤ x.number
greatest_at test [] x k y h e lt is p = absurd (omega arith)
greatest_at test (z ∷ zs) x k y h e lt is p = greatest_here test z zs x k y (test z) refl h e lt is p (λ f j less at. greatest_at test zs x j y h.1 f less at p)

-- ---- against the added rows

module _ (added : List Row) (rows : List Numbered) (h : IsFrozenOf added rows) where
  in_added : (x : Numbered) → Contains rows x → Contains (numbered_after 0 added) x
  in_added x c = Contains-permutation rows (numbered_after 0 added) x (IsPermutation-sym (numbered_after 0 added) rows h.all) c

  to_reverse : (x : Numbered) → Contains rows x → Contains (reverse (numbered_after 0 added)) x
  to_reverse x c = Contains-permutation (numbered_after 0 added) (reverse (numbered_after 0 added)) x (IsPermutation-reverse (numbered_after 0 added)) (in_added x c)

  from_reverse : (x : Numbered) → Contains (reverse (numbered_after 0 added)) x → Contains rows x
  from_reverse x c =
      let ns = numbered_after 0 added in
      Contains-permutation ns rows x h.all (Contains-permutation (reverse ns) ns x (IsPermutation-sym ns (reverse ns) (IsPermutation-reverse ns)) c)

  back : (x : Numbered) → Contains rows x → entry added x.number ≡ Some x.row
  back x c = All-contains (LeadsBack added) (numbered_after 0 added) x (All-from_recursion (LeadsBack added) (numbered_after 0 added) (all_lead_back added)) (in_added x c)

  -- the number tells the row
  one_number : (x y : Numbered) → Contains rows x → Contains rows y → x.number ≡ y.number → x ≡ y
  one_number x y c d e =
      let both : Some x.row ≡ Some y.row = sym (back x c) ∙ ap (entry added) e ∙ back y d in
      let row : x.row ≡ y.row = cc both in
      λ i. record { number = e i; row = row i }

  agree : (test : Numbered → Bool) (o p : Option Numbered) → EachPair (Falls test) rows → find test rows ≡ o → find test (reverse (numbered_after 0 added)) ≡ p → o ≡ p
  agree test None None fall e f = refl
  agree test (Some x) None fall e f =
      let there = found_in test rows x e in
      absurd (both_ways (test x) (not_found test (reverse (numbered_after 0 added)) x f (to_reverse x there.0)) there.1)
  agree test None (Some y) fall e f =
      let there = found_in test (reverse (numbered_after 0 added)) y f in
      absurd (both_ways (test y) (not_found test rows y e (from_reverse y there.0)) there.1)
  agree test (Some x) (Some y) fall e f =
      let zs = reverse (numbered_after 0 added) in
      let here = found_in test rows x e in
      let there = found_in test zs y f in
      let falls : EachPair (Falls test) zs = pairs_weaker (λ (a b : Numbered). b.number < a.number) (Falls test) (λ a b less p q. omega arith) zs (pairs_reverse (λ (a b : Numbered). a.number < b.number) (numbered_after 0 added) (added_rise 0 added)) in
      let back_y = from_reverse y there.0 in
      let to_x = to_reverse x here.0 in
      let up : y.number ≤ x.number = greatest_at test rows x back_y.0 y fall e back_y.1 back_y.2 there.1 in
      let down : x.number ≤ y.number = greatest_at test zs y to_x.0 x falls f to_x.1 to_x.2 here.1 in
      ap (λ n. Some n) (one_number x y here.0 back_y (omega arith))

  falls_upto : (key : List ℕ) (upto : ℕ) (a b : Numbered) → before a b ≡ true → Falls (is_upto key upto) a b
  falls_upto key upto a b p t u =
      let ka = same_eq key (key_of_numbered a) (and_parts (same_key key (key_of_numbered a)) (nat_le a.number upto) t).0 in
      let kb = same_eq key (key_of_numbered b) (and_parts (same_key key (key_of_numbered b)) (nat_le b.number upto) u).0 in
      elim (or_cases (is_below (key_of_numbered a) (key_of_numbered b)) (same_key (key_of_numbered a) (key_of_numbered b) && nat_lt b.number a.number) p) [
        | inl low ↦ absurd (below_other (key_of_numbered a) (key_of_numbered b) low (sym ka ∙ kb))
        | inr both ↦ let less = ltb-true b.number a.number (and_parts (same_key (key_of_numbered a) (key_of_numbered b)) (nat_lt b.number a.number) both).1 in omega arith
      ]

  -- the first row of the key whose number is at most the cut is the newest among so many added rows
  pub found_upto : (key : List ℕ) (upto : ℕ) → option_map (λ (n : Numbered). n.row) (first_upto key_of_numbered number_of key upto rows) ≡ newest_row key (take upto added)
  found_upto key upto =
      let test = is_upto key upto in
      let fall : EachPair (Falls test) rows = pairs_weaker (λ x y. before x y ≡ true) (Falls test) (falls_upto key upto) rows (ordered_pairs rows h.ordered) in
      ap (option_map (λ (n : Numbered). n.row)) (agree test (find test rows) (find test (reverse (numbered_after 0 added))) fall refl refl)
      ∙ newest_among key upto added

  -- so is what a search among them answers
  pub op_upto : (key : List ℕ) (upto cut : ℕ) (items : List Numbered) (o : Option Numbered) → items ≡ rows → cut ≡ upto → (OrderedBy key_of_numbered number_of items → o ≡ first_upto key_of_numbered number_of key cut items) → option_map (λ (n : Numbered). n.row.op) o ≡ newest_op key (take upto added)
  op_upto key upto cut items o e f answer =
      let is : o ≡ first_upto key_of_numbered number_of key upto rows =
      answer (subst (OrderedBy key_of_numbered number_of) (sym e) h.ordered)
      ∙ ap (λ n. first_upto key_of_numbered number_of key n items) f
      ∙ ap (first_upto key_of_numbered number_of key upto) e
      in
      map_twice o ∙ ap (option_map (λ (r : Row). r.op)) (ap (option_map (λ (n : Numbered). n.row)) is ∙ found_upto key upto)
    where
      map_twice : (o : Option Numbered) → option_map (λ (n : Numbered). n.row.op) o ≡ option_map (λ (r : Row). r.op) (option_map (λ (n : Numbered). n.row) o)
      map_twice None = refl
      map_twice (Some n) = refl

  pub as_many : length rows ≡ length added
  as_many = length_permutation (numbered_after 0 added) rows h.all ∙ length_numbered 0 added

  -- ---- the added rows again
  bears : (n : ℕ) (o : Option Numbered) (p : Option Row) → find (λ (x : Numbered). x.number == suc n) rows ≡ o → slice_get added n ≡ p → option_map (λ (x : Numbered). x.row) o ≡ p
  bears n None None e f = refl
  bears n None (Some row) e f =
      let x : Numbered = record { number = suc n; row = row } in
      let there = Contains-permutation (numbered_after 0 added) rows x h.all (numbered_at 0 (suc n) added n row (omega arith) f) in
      absurd (both_ways (suc n == suc n) (not_found (λ (x : Numbered). x.number == suc n) rows x e there) (eq-eqb (suc n) (suc n) refl))
    where
      numbered_at : (at number : ℕ) (added : List Row) (n : ℕ) (row : Row) → number ≡ suc (at + n) → slice_get added n ≡ Some row → Contains (numbered_after at added) (record { number = number; row = row })
      numbered_at at number [] n row e f = absurd (cc f)
      numbered_at at number (r ∷ added) zero row e f =
          let a : suc at ≡ number = omega arith in
          let b : r ≡ row = cc f in
          (0, omega arith, λ i. record { number = a i; row = b i })
      numbered_at at number (r ∷ added) (suc n) row e f =
          let later = numbered_at (suc at) number added n row (omega arith) f in
          (suc later.0, omega (arith, later.1), later.2)
  bears n (Some x) p e f =
      let here = found_in (λ (x : Numbered). x.number == suc n) rows x e in
      let number : x.number ≡ suc n = eqb-true x.number (suc n) here.1 in
      sym (back x here.0) ∙ ap (entry added) number ∙ f

  take_more : (n : ℕ) (added : List Row) → take (suc n) added ≡ take n added ++ option_to_list (slice_get added n)
  take_more n [] = sym (nothing n)
    where
      none : List Row
      none = []

      nothing : (n : ℕ) → take n none ++ option_to_list (slice_get none n) ≡ none
      nothing zero = refl
      nothing (suc n) = refl
  take_more zero (row ∷ added) = refl
  take_more (suc n) (row ∷ added) = ap (λ l. row ∷ l) (take_more n added)

  upto : (n : ℕ) → added_upto rows n ≡ take n added
  unfolding added_upto
  upto zero = refl
  upto (suc n) =
      ap (λ l. l ++ option_to_list (bearing rows (suc n))) (upto n)
      ∙ ap (λ o. take n added ++ option_to_list o) (bears n (find (λ (x : Numbered). x.number == suc n) rows) (slice_get added n) refl refl)
      ∙ sym (take_more n added)

  pub added_again : added_of rows ≡ added
  added_again = upto (length rows) ∙ ap (λ n. take n added) as_many ∙ take-length added
