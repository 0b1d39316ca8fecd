-- Rows by key are known by the rows of each key.
use Rattle.std.proofs.Common.{◌≡◌, ℕ, suc, ◌<◌, ◌≤◌, inl, inr, Bool, true, false, cond, ◌&&◌, ◌||◌, nat_lt, eqb, List, [], ◌∷◌, ◌++◌, length, Some, None, refl, sym, ap, subst, ◌∙◌, arith}
use Rattle.std.specs.List.{filter, AllByRecursion}
use Rattle.std.proofs.lemmas.Bool.{cases_Bool, or_cases, and_parts, and_from, or_left, lt-ltb, eqb-true, eqb-false, both_ways}
use Rattle.sv_model.specs.declared.writes.Kept.{Kept}
use Rattle.sv_model.specs.Journal.{same_key}
use Rattle.sv_model.specs.Order.{is_below, comes_before, OrderedFrom, OrderedBy, RisesFrom, RisesBy, key_of_kept, end_of_kept}
use Rattle.sv_model.specs.Flat.{of_key, without_last_deletes, stays}
use Rattle.sv_model.proofs.FlatFirsts.{FallFrom, firsts}
use Rattle.sv_model.proofs.FlatReads.{deletes_left}
use Rattle.sv_model.proofs.KeyOrder.{not_true, same_eq, same_yes, same_no, below_trans, below_other, above, not_back}

-- ---- keys that do not fall

pub below_self : (a : List ℕ) → is_below a a ≡ false
below_self a = not_true (is_below a a) (λ t. below_other a a t refl)

pub not_below_trans : (a b c : List ℕ) → is_below a b ≡ false → is_below b c ≡ false → is_below a c ≡ false
not_below_trans a b c p q = not_true (is_below a c) (λ t. elim (cases_Bool (same_key c b)) [
  | inl same ↦ both_ways (is_below a b) p (subst (λ (k : List ℕ). is_below a k ≡ true) (same_eq c b same) t)
  | inr other ↦ both_ways (is_below a b) p (below_trans a c b t (above c b q other))
])

before_rises : (a b : Kept) → comes_before key_of_kept end_of_kept a b ≡ true → is_below b.row.key a.row.key ≡ false
before_rises a b h = elim (or_cases (is_below a.row.key b.row.key) (same_key a.row.key b.row.key && nat_lt b.end a.end) h) [
  | inl low ↦ not_back a.row.key b.row.key low
  | inr both ↦
      let e = same_eq a.row.key b.row.key (and_parts (same_key a.row.key b.row.key) (nat_lt b.end a.end) both).0 in
      subst (λ (k : List ℕ). is_below k a.row.key ≡ false) e (below_self a.row.key)
]

ordered_rise : (last : Kept) (rows : List Kept) → OrderedFrom key_of_kept end_of_kept last rows
    → RisesFrom key_of_kept last rows
ordered_rise last [] up = tt
ordered_rise last (r ∷ rows) up = (before_rises last r up.0, ordered_rise r rows up.1)

pub ordered_rises : (rows : List Kept) → OrderedBy key_of_kept end_of_kept rows → RisesBy key_of_kept rows
ordered_rises [] up = tt
ordered_rises (r ∷ rows) up = ordered_rise r rows up

pub rises_rest : (r : Kept) (rows : List Kept) → RisesFrom key_of_kept r rows → RisesBy key_of_kept rows
rises_rest r [] up = tt
rises_rest r (x ∷ rows) up = up.1

pub rises_as : (p q : Kept) (rows : List Kept) → p.row.key ≡ q.row.key → RisesFrom key_of_kept p rows
    → RisesFrom key_of_kept q rows
rises_as p q [] e up = tt
rises_as p q (r ∷ rows) e up = (subst (λ (k : List ℕ). is_below r.row.key k ≡ false) e up.0, up.1)

pub rises_lower : (p q : Kept) (rows : List Kept) → is_below q.row.key p.row.key ≡ false
    → RisesFrom key_of_kept q rows → RisesFrom key_of_kept p rows
rises_lower p q [] h up = tt
rises_lower p q (r ∷ rows) h up = (not_below_trans r.row.key q.row.key p.row.key up.0 h, up.1)

-- ---- the rows of a key

pub key_yes : (key : List ℕ) (r : Kept) (rows : List Kept) → same_key key r.row.key ≡ true
    → of_key key (r ∷ rows) ≡ r ∷ of_key key rows
key_yes key r rows e = ap (λ (b : Bool). cond b (r ∷ of_key key rows) (of_key key rows)) e

pub key_no : (key : List ℕ) (r : Kept) (rows : List Kept) → same_key key r.row.key ≡ false
    → of_key key (r ∷ rows) ≡ of_key key rows
key_no key r rows e = ap (λ (b : Bool). cond b (r ∷ of_key key rows) (of_key key rows)) e

pub key_own : (r : Kept) (rows : List Kept) → of_key r.row.key (r ∷ rows) ≡ r ∷ of_key r.row.key rows
key_own r rows = key_yes r.row.key r rows (same_yes r.row.key r.row.key refl)

-- a key has no row behind one of a higher key
pub gone : (key : List ℕ) (q : Kept) (rows : List Kept) → is_below key q.row.key ≡ true → RisesFrom key_of_kept q rows
    → of_key key rows ≡ []
gone key q [] high up = refl
gone key q (r ∷ rows) high up =
    let higher : is_below key r.row.key ≡ true = elim (cases_Bool (same_key q.row.key r.row.key)) [
      | inl same ↦ subst (λ (k : List ℕ). is_below key k ≡ true) (same_eq q.row.key r.row.key same) high
      | inr other ↦ below_trans key q.row.key r.row.key high (above q.row.key r.row.key up.0 other)
    ] in
    key_no key r rows (same_no key r.row.key (below_other key r.row.key higher)) ∙ gone key r rows higher up.1

-- a key that has rows is not below the one before
later_not_below : (key : List ℕ) (last : Kept) (rows : List Kept) (z : Kept) (zs : List Kept)
    → RisesFrom key_of_kept last rows → of_key key rows ≡ z ∷ zs → is_below key last.row.key ≡ false
later_not_below key last [] z zs up e = absurd (cc e)
later_not_below key last (r ∷ rows) z zs up e = elim (cases_Bool (same_key key r.row.key)) [
  | inl same ↦ subst (λ (k : List ℕ). is_below k last.row.key ≡ false) (sym (same_eq key r.row.key same)) up.0
  | inr other ↦ not_below_trans key r.row.key last.row.key (later_not_below key r rows z zs up.1 (sym (key_no key r rows other) ∙ e)) up.0
]

heads : (x y : Kept) (xs ys : List Kept) → x ∷ xs ≡ y ∷ ys → x ≡ y
heads x y xs ys e = cc

tails : (x y : Kept) (xs ys : List Kept) → x ∷ xs ≡ y ∷ ys → xs ≡ ys
tails x y xs ys e = cc

no_cons : (x : Kept) (xs : List Kept) → [] ≡ x ∷ xs → ⊥
no_cons x xs e = cc e

same_heads : (x y : Kept) (xs ys : List Kept) → RisesFrom key_of_kept x xs → RisesFrom key_of_kept y ys
    → ((key : List ℕ) → of_key key (x ∷ xs) ≡ of_key key (y ∷ ys)) → x ≡ y
same_heads x y xs ys up down h = elim (cases_Bool (same_key x.row.key y.row.key)) [
  | inl same ↦ heads x y (of_key x.row.key xs) (of_key x.row.key ys) (sym (key_own x xs) ∙ h x.row.key ∙ key_yes x.row.key y ys same)
  | inr other ↦
      let back : same_key y.row.key x.row.key ≡ false = not_true (same_key y.row.key x.row.key) (λ t. both_ways (same_key x.row.key y.row.key) other (same_yes x.row.key y.row.key (sym (same_eq y.row.key x.row.key t)))) in
      let left : is_below x.row.key y.row.key ≡ false = later_not_below x.row.key y ys x (of_key x.row.key xs) down (sym (key_no x.row.key y ys other) ∙ sym (h x.row.key) ∙ key_own x xs) in
      let right : is_below y.row.key x.row.key ≡ false = later_not_below y.row.key x xs y (of_key y.row.key ys) up (sym (key_no y.row.key x xs back) ∙ h y.row.key ∙ key_own y ys) in
      absurd (both_ways (is_below y.row.key x.row.key) right (above y.row.key x.row.key left back))
]

same_tails : (b : Bool) (x : Kept) (xs ys : List Kept) → cond b (x ∷ xs) xs ≡ cond b (x ∷ ys) ys → xs ≡ ys
same_tails true x xs ys e = tails x x xs ys e
same_tails false x xs ys e = e

-- rows by key are the same where each key's rows are
pub one_list : (xs ys : List Kept) → RisesBy key_of_kept xs → RisesBy key_of_kept ys
    → ((key : List ℕ) → of_key key xs ≡ of_key key ys) → xs ≡ ys
one_list [] [] up down h = refl
one_list [] (y ∷ ys) up down h = absurd (no_cons y (of_key y.row.key ys) (h y.row.key ∙ key_own y ys))
one_list (x ∷ xs) [] up down h = absurd (no_cons x (of_key x.row.key xs) (sym (h x.row.key) ∙ key_own x xs))
one_list (x ∷ xs) (y ∷ ys) up down h =
    let head : x ≡ y = same_heads x y xs ys up down h in
    let rest : xs ≡ ys = one_list xs ys (rises_rest x xs up) (rises_rest y ys down)
    (λ key. same_tails (same_key key x.row.key) x (of_key key xs) (of_key key ys) (h key ∙ ap (λ (z : Kept). of_key key (z ∷ ys)) (sym head))) in
    (λ i. head i ∷ rest i)

all_cond : (P : Kept → Type 0) (b : Bool) (r : Kept) (rows : List Kept) → AllByRecursion P (cond b (r ∷ rows) rows)
    → AllByRecursion P rows
all_cond P true r rows all = all.1
all_cond P false r rows all = all

-- what holds of each key's rows holds of all
pub all_of_keys : (P : Kept → Type 0) (rows : List Kept) → ((key : List ℕ) → AllByRecursion P (of_key key rows))
    → AllByRecursion P rows
all_of_keys P [] each = tt
all_of_keys P (r ∷ rows) each =
    let own : AllByRecursion P (r ∷ of_key r.row.key rows) = subst (AllByRecursion P) (key_own r rows) (each r.row.key) in
    (own.0, all_of_keys P rows (λ key. all_cond P (same_key key r.row.key) r (of_key key rows) (each key)))

-- ---- the order

-- ends that fall, the first below this
abbrev pub DropFrom : ℕ → List Kept → Type 0
DropFrom high [] = Unit {0}
DropFrom high (r ∷ rows) = (r.end < high) × DropFrom r.end rows

abbrev pub Drops : List Kept → Type 0
Drops [] = Unit {0}
Drops (r ∷ rows) = DropFrom r.end rows

pub drop_rest : (high : ℕ) (rows : List Kept) → DropFrom high rows → Drops rows
drop_rest high [] down = tt
drop_rest high (r ∷ rows) down = down.1

drops_cond : (b : Bool) (r : Kept) (rows : List Kept) → Drops (cond b (r ∷ rows) rows) → Drops rows
drops_cond true r rows down = drop_rest r.end rows down
drops_cond false r rows down = down

or_right : (x y : Bool) → y ≡ true → (x || y) ≡ true
or_right true y h = refl
or_right false y h = h

next_before : (x y : Kept) (rows : List Kept) → is_below y.row.key x.row.key ≡ false
    → Drops (of_key x.row.key (x ∷ y ∷ rows)) → comes_before key_of_kept end_of_kept x y ≡ true
next_before x y rows up down = elim (cases_Bool (same_key x.row.key y.row.key)) [
  | inl same ↦
      let both : Drops (x ∷ y ∷ of_key x.row.key rows) = subst Drops (key_own x (y ∷ rows) ∙ ap (λ (l : List Kept). x ∷ l) (key_yes x.row.key y rows same)) down in
      or_right (is_below x.row.key y.row.key) (same_key x.row.key y.row.key && nat_lt y.end x.end) (and_from (same_key x.row.key y.row.key) (nat_lt y.end x.end) same (lt-ltb y.end x.end both.0))
  | inr other ↦ or_left (is_below x.row.key y.row.key) (same_key x.row.key y.row.key && nat_lt y.end x.end) (above x.row.key y.row.key up other)
]

ordered_from : (last : Kept) (rows : List Kept) → RisesFrom key_of_kept last rows
    → ((key : List ℕ) → Drops (of_key key (last ∷ rows))) → OrderedFrom key_of_kept end_of_kept last rows
ordered_from last [] up down = tt
ordered_from last (r ∷ rows) up down =
    (next_before last r rows up.0 (down last.row.key), ordered_from r rows up.1 (λ key. drops_cond (same_key key last.row.key) last (of_key key (r ∷ rows)) (down key)))

-- rows by key, of which those of each key fall by end, stand in order
pub ordered_of_keys : (rows : List Kept) → RisesBy key_of_kept rows → ((key : List ℕ) → Drops (of_key key rows))
    → OrderedBy key_of_kept end_of_kept rows
ordered_of_keys [] up down = tt
ordered_of_keys (r ∷ rows) up down = ordered_from r rows up down

-- rows whose ends do not rise, of which the first of each end stay
pub firsts_drop : (high : ℕ) (rows : List Kept) → FallFrom high rows → DropFrom high (firsts (Some high) rows)
firsts_drop high [] fall = tt
firsts_drop high (r ∷ rows) fall = elim (cases_Bool (eqb r.end high)) [
  | inl same ↦
      subst (DropFrom high) (sym (ap (λ (b : Bool). cond b (firsts (Some high) rows) (r ∷ firsts (Some r.end) rows)) same))
      (firsts_drop high rows (subst (λ (k : ℕ). FallFrom k rows) (eqb-true r.end high same) fall.1))
  | inr other ↦
      let apart = eqb-false r.end high other in
      subst (DropFrom high) (sym (ap (λ (b : Bool). cond b (firsts (Some high) rows) (r ∷ firsts (Some r.end) rows)) other))
      (below_from r.end high fall.0 apart, firsts_drop r.end rows fall.1)
]
  where
    below_from : (m n : ℕ) → m ≤ n → (m ≡ n → ⊥) → m < n
    below_from m n le apart = omega arith

pub firsts_drops : (high : ℕ) (rows : List Kept) → FallFrom high rows → Drops (firsts None rows)
firsts_drops high [] fall = tt
firsts_drops high (r ∷ rows) fall = firsts_drop r.end rows fall.1

drop_front : (high : ℕ) (xs ys : List Kept) → DropFrom high (xs ++ ys) → DropFrom high xs
drop_front high [] ys down = tt
drop_front high (x ∷ xs) ys down = (down.0, drop_front x.end xs ys down.1)

drops_front : (xs ys : List Kept) → Drops (xs ++ ys) → Drops xs
drops_front [] ys down = tt
drops_front (x ∷ xs) ys down = drop_front x.end xs ys down

pub stays_drops : (last : Bool) (rows : List Kept) → Drops rows → Drops (stays last rows)
stays_drops false rows down = down
stays_drops true rows down = let split = deletes_left rows in drops_front (without_last_deletes rows) split.0 (subst Drops split.1 down)

-- ---- how many

module _ {A B : Type 0} (key : A → List ℕ) (own : B → List ℕ) where
  abbrev of_left : List ℕ → List A → List A
  of_left k xs = filter (λ x. same_key k (key x)) xs

  abbrev of_right : List ℕ → List B → List B
  of_right k ys = filter (λ y. same_key k (own y)) ys

  abbrev without_first : List ℕ → List B → List B
  without_first k [] = []
  without_first k (y ∷ ys) = cond (same_key k (own y)) ys (y ∷ without_first k ys)

  first_less : (k : List ℕ) (ys : List B) → 1 ≤ length (of_right k ys) → length ys ≡ suc (length (without_first k ys))
  first_less k [] some = absurd (omega (arith, some))
  first_less k (y ∷ ys) some = at (same_key k (own y)) some (first_less k ys)
    where
      at : (b : Bool) → 1 ≤ length (cond b (y ∷ of_right k ys) (of_right k ys))
          → (1 ≤ length (of_right k ys) → length ys ≡ suc (length (without_first k ys)))
          → length (y ∷ ys) ≡ suc (length (cond b ys (y ∷ without_first k ys)))
      at true s ih = refl
      at false s ih = ap suc (ih s)

  first_most : (k other : List ℕ) (ys : List B)
      → length (of_right other ys) ≤ suc (length (of_right other (without_first k ys)))
  first_most k other [] = omega arith
  first_most k other (y ∷ ys) = at (same_key k (own y)) (same_key other (own y)) refl (first_most k other ys)
    where
      at : (b c : Bool) → same_key other (own y) ≡ c
          → length (of_right other ys) ≤ suc (length (of_right other (without_first k ys)))
          → length (cond c (y ∷ of_right other ys) (of_right other ys)) ≤ suc (length (of_right other (cond b ys (y ∷ without_first k ys))))
      at true true e ih = omega arith
      at true false e ih = omega arith
      at false true e ih = let more = ap (λ (t : Bool). length (cond t (y ∷ of_right other (without_first k ys)) (of_right other (without_first k ys)))) e in omega (arith, more, ih)
      at false false e ih = let more = ap (λ (t : Bool). length (cond t (y ∷ of_right other (without_first k ys)) (of_right other (without_first k ys)))) e in omega (arith, more, ih)

  first_other : (k other : List ℕ) (ys : List B) → same_key other k ≡ false
      → length (of_right other ys) ≤ length (of_right other (without_first k ys))
  first_other k other [] apart = omega arith
  first_other k other (y ∷ ys) apart = at (same_key k (own y)) refl (same_key other (own y)) refl (first_other k other ys apart)
    where
      at : (b : Bool) → same_key k (own y) ≡ b → (c : Bool) → same_key other (own y) ≡ c
          → length (of_right other ys) ≤ length (of_right other (without_first k ys))
          → length (cond c (y ∷ of_right other ys) (of_right other ys)) ≤ length (of_right other (cond b ys (y ∷ without_first k ys)))
      at true d true e ih = absurd (both_ways (same_key other k) apart (same_yes other k (same_eq other (own y) e ∙ sym (same_eq k (own y) d))))
      at true d false e ih = omega arith
      at false d true e ih = let more = ap (λ (t : Bool). length (cond t (y ∷ of_right other (without_first k ys)) (of_right other (without_first k ys)))) e in omega (arith, more, ih)
      at false d false e ih = let more = ap (λ (t : Bool). length (cond t (y ∷ of_right other (without_first k ys)) (of_right other (without_first k ys)))) e in omega (arith, more, ih)

  own_left : (x : A) (xs : List A) → length (of_left (key x) (x ∷ xs)) ≡ suc (length (of_left (key x) xs))
  own_left x xs = ap (λ (b : Bool). length (cond b (x ∷ of_left (key x) xs) (of_left (key x) xs))) (same_yes (key x) (key x) refl)

  fewer : (x : A) (xs : List A) (ys : List B) → ((k : List ℕ) → length (of_left k (x ∷ xs)) ≤ length (of_right k ys))
      → (k : List ℕ) → length (of_left k xs) ≤ length (of_right k (without_first (key x) ys))
  fewer x xs ys few k = at (same_key k (key x)) refl (few k)
    where
      at : (b : Bool) → same_key k (key x) ≡ b
          → length (cond b (x ∷ of_left k xs) (of_left k xs)) ≤ length (of_right k ys)
          → length (of_left k xs) ≤ length (of_right k (without_first (key x) ys))
      at true e le = omega (arith, first_most (key x) k ys, le)
      at false e le = omega (arith, first_other (key x) k ys e, le)

  -- there are at most as many where of each key there are
  pub few_of_keys : (xs : List A) (ys : List B) → ((k : List ℕ) → length (of_left k xs) ≤ length (of_right k ys))
      → length xs ≤ length ys
  few_of_keys [] ys few = omega arith
  few_of_keys (x ∷ xs) ys few =
      let here = own_left x xs in
      let some : 1 ≤ length (of_right (key x) ys) = omega (arith, few (key x), here) in
      let less = first_less (key x) ys some in
      let rest = few_of_keys xs (without_first (key x) ys) (fewer x xs ys few) in
      omega (arith, less, rest)
