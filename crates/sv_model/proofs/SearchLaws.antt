-- Searching items that stand by key and descending rank: those that stand ahead of what is looked for are a front, and
-- the first item after that front is the answer exactly where its key is the wanted one.
use Rattle.std.proofs.Common.{◌≡◌, ℕ, zero, suc, ◌<◌, Bool, true, false, cond, ◌&&◌, ◌||◌, nat_lt, nat_le, List, [], ◌∷◌, length, get_or, Some, None, refl, sym, ap, subst, ◌∙◌, arith, inl, inr}
use Rattle.std.specs.declared.cmp.Ordering.TheVariants.{Equal, Greater}
use Rattle.std.specs.Ordering.{nat_cmp, is_lt, is_eq}
use Rattle.std.specs.Cmp.Lexicographic.{slice_cmp}
use Rattle.std.specs.List.Sorted.{IsPartitionedBy}
use Rattle.std.proofs.lemmas.Bool.{or_cases, or_parts, or_left, and_parts, and_from, and_left, and_right, ltb-true, ltb-false, lt-ltb, le-leb, lt-leb, both_ways}
use Rattle.sv_model.specs.Journal.{same_key}
use Rattle.sv_model.specs.Order.{is_below, comes_before, OrderedFrom, OrderedBy, is_ahead, first_upto}
use Rattle.sv_model.proofs.KeyOrder.{same_eq, same_yes, same_no, above, below_trans, below_other}

-- ---- one test

equal_keys : (a b : List ℕ) → slice_cmp nat_cmp a b ≡ Equal → b ≡ a
equal_keys a b e = sym (same_eq a b (ap is_eq e))

pub ahead_equal : (a b : List ℕ) (t : Bool) → slice_cmp nat_cmp a b ≡ Equal → (is_below a b || (same_key b a && t)) ≡ t
ahead_equal a b t e = ap (λ (s : Bool). s || (same_key b a && t)) (ap is_lt e) ∙ ap (λ (s : Bool). s && t) (same_yes b a (equal_keys a b e))

not_equal : (a b : List ℕ) → slice_cmp nat_cmp a b ≡ Greater → b ≡ a → ⊥
not_equal a b e same = both_ways (same_key a b) (ap is_eq e) (same_yes a b (sym same))

pub ahead_greater : (a b : List ℕ) (t : Bool) → slice_cmp nat_cmp a b ≡ Greater
    → (is_below a b || (same_key b a && t)) ≡ false
ahead_greater a b t e = ap (λ (s : Bool). s || (same_key b a && t)) (ap is_lt e) ∙ ap (λ (s : Bool). s && t) (same_no b a (not_equal a b e))

-- ---- the front

module _ {A : Type 0} (key : A → List ℕ) (rank : A → ℕ) where
  abbrev before : A → A → Bool
  before a b = comes_before key rank a b

  abbrev ahead : List ℕ → ℕ → A → Bool
  ahead wanted upto x = is_ahead key rank wanted upto x

  from_below : (wanted : List ℕ) (upto : ℕ) (a b : A) → is_below (key a) (key b) ≡ true → ahead wanted upto b ≡ true
      → ahead wanted upto a ≡ true
  from_below wanted upto a b below h = or_left (is_below (key a) wanted) (same_key wanted (key a) && nat_lt upto (rank a)) (
      elim (or_cases (is_below (key b) wanted) (same_key wanted (key b) && nat_lt upto (rank b)) h) [
        | inl low ↦ below_trans (key a) (key b) wanted below low
        | inr same ↦ subst (λ (k : List ℕ). is_below (key a) k ≡ true) (sym (same_eq wanted (key b) (and_parts (same_key wanted (key b)) (nat_lt upto (rank b)) same).0)) below
      ])

  lower : (upto a b : ℕ) → nat_lt b a ≡ true → nat_lt upto b ≡ true → nat_lt upto a ≡ true
  lower upto a b p q = let x = ltb-true b a p in let y = ltb-true upto b q in lt-ltb upto a (omega arith)

  from_same : (wanted : List ℕ) (upto : ℕ) (a b : A) → key a ≡ key b → nat_lt (rank b) (rank a) ≡ true
      → ahead wanted upto b ≡ true → ahead wanted upto a ≡ true
  from_same wanted upto a b e less h =
      elim (or_cases (is_below (key b) wanted) (same_key wanted (key b) && nat_lt upto (rank b)) h) [
        | inl low ↦ or_left (is_below (key a) wanted) (same_key wanted (key a) && nat_lt upto (rank a)) (subst (λ (k : List ℕ). is_below k wanted ≡ true) (sym e) low)
        | inr both ↦
            let parts = and_parts (same_key wanted (key b)) (nat_lt upto (rank b)) both in
            or_from_right (is_below (key a) wanted) (same_key wanted (key a) && nat_lt upto (rank a))
            (and_from (same_key wanted (key a)) (nat_lt upto (rank a)) (subst (λ (k : List ℕ). same_key wanted k ≡ true) (sym e) parts.0) (lower upto (rank a) (rank b) less parts.1))
      ]
    where
      or_from_right : (x y : Bool) → y ≡ true → (x || y) ≡ true
      or_from_right true y h = refl
      or_from_right false y h = h

  -- what stands before an item that is ahead is ahead too
  before_ahead : (wanted : List ℕ) (upto : ℕ) (a b : A) → before a b ≡ true → ahead wanted upto b ≡ true
      → ahead wanted upto a ≡ true
  before_ahead wanted upto a b h there =
      elim (or_cases (is_below (key a) (key b)) (same_key (key a) (key b) && nat_lt (rank b) (rank a)) h) [
        | inl low ↦ from_below wanted upto a b low there
        | inr both ↦
            let parts = and_parts (same_key (key a) (key b)) (nat_lt (rank b) (rank a)) both in
            from_same wanted upto a b (same_eq (key a) (key b) parts.0) parts.1 there
      ]

  from_ahead : (wanted : List ℕ) (upto : ℕ) (last : A) (xs : List A) → OrderedFrom key rank last xs → (j : ℕ) (d : A)
      → j < length xs → ahead wanted upto (get_or xs j d) ≡ true → ahead wanted upto last ≡ true
  from_ahead wanted upto last [] up j d lt h = absurd (omega arith)
  from_ahead wanted upto last (x ∷ xs) up zero d lt h = before_ahead wanted upto last x up.0 h
  from_ahead wanted upto last (x ∷ xs) up (suc j) d lt h = before_ahead wanted upto last x up.0 (from_ahead wanted upto x xs up.1 j d (omega arith) h)

  pub ordered_rest : (x : A) (xs : List A) → OrderedFrom key rank x xs → OrderedBy key rank xs
  ordered_rest x [] up = tt
  ordered_rest x (y ∷ xs) up = up.1

  pub parted : (wanted : List ℕ) (upto : ℕ) (xs : List A) → OrderedBy key rank xs
      → IsPartitionedBy (ahead wanted upto) xs
  parted wanted upto [] up i j d le lt h = absurd (omega arith)
  parted wanted upto (x ∷ xs) up zero zero d le lt h = h
  parted wanted upto (x ∷ xs) up zero (suc j) d le lt h = from_ahead wanted upto x xs up j d (omega arith) h
  parted wanted upto (x ∷ xs) up (suc i) zero d le lt h = absurd (omega arith)
  parted wanted upto (x ∷ xs) up (suc i) (suc j) d le lt h = parted wanted upto xs (ordered_rest x xs up) i j d (omega arith) (omega arith) h

  -- ---- the answer

  abbrev wants : List ℕ → ℕ → A → Bool
  wants wanted upto x = same_key wanted (key x) && nat_le (rank x) upto

  missed : (wanted : List ℕ) (upto : ℕ) (x : A) (xs : List A) → wants wanted upto x ≡ false
      → first_upto key rank wanted upto (x ∷ xs) ≡ first_upto key rank wanted upto xs
  missed wanted upto x xs e = ap (λ (b : Bool). cond b (Some x) (first_upto key rank wanted upto xs)) e

  ahead_other : (wanted : List ℕ) (upto : ℕ) (x : A) → ahead wanted upto x ≡ true → wants wanted upto x ≡ false
  ahead_other wanted upto x h =
      elim (or_cases (is_below (key x) wanted) (same_key wanted (key x) && nat_lt upto (rank x)) h) [
        | inl low ↦ and_left (same_key wanted (key x)) (nat_le (rank x) upto) (same_no wanted (key x) (λ e. below_other (key x) wanted low (sym e)))
        | inr both ↦ and_right (same_key wanted (key x)) (nat_le (rank x) upto) (lt-leb (rank x) upto (ltb-true upto (rank x) (and_parts (same_key wanted (key x)) (nat_lt upto (rank x)) both).1))
      ]

  not_ahead : (wanted : List ℕ) (upto : ℕ) (x : A) → ahead wanted upto x ≡ false → same_key wanted (key x) ≡ true
      → wants wanted upto x ≡ true
  not_ahead wanted upto x h same =
      let apart = (or_parts (is_below (key x) wanted) (same_key wanted (key x) && nat_lt upto (rank x)) h).1 in
      let more : nat_lt upto (rank x) ≡ false = sym (ap (λ (b : Bool). b && nat_lt upto (rank x)) same) ∙ apart in
      and_from (same_key wanted (key x)) (nat_le (rank x) upto) same (le-leb (rank x) upto (ltb-false upto (rank x) more))

  pub found : (wanted : List ℕ) (upto : ℕ) (xs : List A) (at : ℕ) (d : A) → at < length xs
      → ((k : ℕ) (e : A) → k < at → ahead wanted upto (get_or xs k e) ≡ true)
      → ahead wanted upto (get_or xs at d) ≡ false → same_key wanted (key (get_or xs at d)) ≡ true
      → first_upto key rank wanted upto xs ≡ Some (get_or xs at d)
  found wanted upto [] at d lt front here same = absurd (omega arith)
  found wanted upto (x ∷ xs) zero d lt front here same = ap (λ (b : Bool). cond b (Some x) (first_upto key rank wanted upto xs)) (not_ahead wanted upto x here same)
  found wanted upto (x ∷ xs) (suc at) d lt front here same =
      missed wanted upto x xs (ahead_other wanted upto x (front 0 x (omega arith)))
      ∙ found wanted upto xs at d (omega arith) (λ k e lt. front (suc k) e (omega arith)) here same

  higher : (wanted : List ℕ) (x y : A) → is_below wanted (key x) ≡ true → before x y ≡ true
      → is_below wanted (key y) ≡ true
  higher wanted x y high h =
      elim (or_cases (is_below (key x) (key y)) (same_key (key x) (key y) && nat_lt (rank y) (rank x)) h) [
        | inl low ↦ below_trans wanted (key x) (key y) high low
        | inr both ↦ subst (λ (k : List ℕ). is_below wanted k ≡ true) (same_eq (key x) (key y) (and_parts (same_key (key x) (key y)) (nat_lt (rank y) (rank x)) both).0) high
      ]

  none_after : (wanted : List ℕ) (upto : ℕ) (x : A) (xs : List A) → is_below wanted (key x) ≡ true
      → OrderedFrom key rank x xs → first_upto key rank wanted upto xs ≡ None
  none_after wanted upto x [] high up = refl
  none_after wanted upto x (y ∷ xs) high up =
      let next = higher wanted x y high up.0 in
      missed wanted upto y xs (and_left (same_key wanted (key y)) (nat_le (rank y) upto) (same_no wanted (key y) (below_other wanted (key y) next)))
      ∙ none_after wanted upto y xs next up.1

  pub found_other : (wanted : List ℕ) (upto : ℕ) (xs : List A) (at : ℕ) (d : A) → OrderedBy key rank xs
      → at < length xs → ((k : ℕ) (e : A) → k < at → ahead wanted upto (get_or xs k e) ≡ true)
      → ahead wanted upto (get_or xs at d) ≡ false → same_key wanted (key (get_or xs at d)) ≡ false
      → first_upto key rank wanted upto xs ≡ None
  found_other wanted upto [] at d up lt front here other = absurd (omega arith)
  found_other wanted upto (x ∷ xs) zero d up lt front here other =
      let high = above wanted (key x) (or_parts (is_below (key x) wanted) (same_key wanted (key x) && nat_lt upto (rank x)) here).0 other in
      missed wanted upto x xs (and_left (same_key wanted (key x)) (nat_le (rank x) upto) other) ∙ none_after wanted upto x xs high up
  found_other wanted upto (x ∷ xs) (suc at) d up lt front here other =
      missed wanted upto x xs (ahead_other wanted upto x (front 0 x (omega arith)))
      ∙ found_other wanted upto xs at d (ordered_rest x xs up) (omega arith) (λ k e lt. front (suc k) e (omega arith)) here other

  pub found_past : (wanted : List ℕ) (upto : ℕ) (xs : List A)
      → ((k : ℕ) (e : A) → k < length xs → ahead wanted upto (get_or xs k e) ≡ true)
      → first_upto key rank wanted upto xs ≡ None
  found_past wanted upto [] front = refl
  found_past wanted upto (x ∷ xs) front =
      missed wanted upto x xs (ahead_other wanted upto x (front 0 x (omega arith)))
      ∙ found_past wanted upto xs (λ k e lt. front (suc k) e (omega arith))
