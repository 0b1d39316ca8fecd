-- What stays of rows by key, told by key: the first of each end, and where nothing lies below no delete under which no
-- put stays.
use Rattle.std.proofs.Common.{◌≡◌, ℕ, inl, inr, Bool, true, false, cond, not, ◌&&◌, eqb, List, [], ◌∷◌, Some, None, refl, sym, ap, subst, ◌∙◌}
use Rattle.std.specs.List.{dedup, dedup_from}
use Rattle.std.proofs.lemmas.Bool.{cases_Bool, both_ways, and_from, and_parts}
use Rattle.sv_model.specs.declared.writes.Kept.{Kept}
use Rattle.sv_model.specs.Journal.{same_key, is_delete}
use Rattle.sv_model.specs.Order.{is_below, RisesFrom, RisesBy, key_of_kept}
use Rattle.sv_model.specs.Flat.{of_key, is_empty, without_last_deletes, stays}
use Rattle.sv_model.proofs.KeyOrder.{not_true, same_eq, same_yes, same_no, above}
use Rattle.sv_model.proofs.FlatFirsts.{firsts}
use Rattle.sv_model.proofs.FlatKeys.{below_self, rises_as, rises_lower, rises_rest, key_yes, key_no, gone}
use Rattle.sv_merge.specs.Placing.{same_place, is_next, thinned}

-- ---- the first of each end

again : (p q : Kept) (rows : List Kept) → same_place q p ≡ true
    → dedup_from same_place p (q ∷ rows) ≡ dedup_from same_place p rows
again p q rows e = ap (λ (b : Bool). cond b (dedup_from same_place p rows) (p ∷ dedup_from same_place q rows)) e

next : (p q : Kept) (rows : List Kept) → same_place q p ≡ false
    → dedup_from same_place p (q ∷ rows) ≡ p ∷ dedup_from same_place q rows
next p q rows e = ap (λ (b : Bool). cond b (dedup_from same_place p rows) (p ∷ dedup_from same_place q rows)) e

first_again : (p q : Kept) (rows : List Kept) → eqb q.end p.end ≡ true
    → firsts (Some p.end) (q ∷ rows) ≡ firsts (Some p.end) rows
first_again p q rows e = ap (λ (b : Bool). cond b (firsts (Some p.end) rows) (q ∷ firsts (Some q.end) rows)) e

first_next : (p q : Kept) (rows : List Kept) → eqb q.end p.end ≡ false
    → firsts (Some p.end) (q ∷ rows) ≡ q ∷ firsts (Some q.end) rows
first_next p q rows e = ap (λ (b : Bool). cond b (firsts (Some p.end) rows) (q ∷ firsts (Some q.end) rows)) e

-- the rows of the key, and of them the first of each end
abbrev first_of : List ℕ → List Kept → List Kept
first_of key rows = firsts None (of_key key rows)

-- a row of the same place adds nothing
skip_again : (key : List ℕ) (p q : Kept) (rows : List Kept) → same_place q p ≡ true
    → first_of key (p ∷ rows) ≡ first_of key (p ∷ q ∷ rows)
skip_again key p q rows e =
    let parts = and_parts (eqb q.end p.end) (same_key q.row.key p.row.key) e in
    elim (cases_Bool (same_key key p.row.key)) [
      | inl same ↦
          let too : same_key key q.row.key ≡ true = same_yes key q.row.key (same_eq key p.row.key same ∙ sym (same_eq q.row.key p.row.key parts.1)) in
          ap (firsts None) (key_yes key p rows same)
          ∙ ap (λ (l : List Kept). p ∷ l) (sym (first_again p q (of_key key rows) parts.0))
          ∙ sym (ap (firsts None) (key_yes key p (q ∷ rows) same ∙ ap (λ (l : List Kept). p ∷ l) (key_yes key q rows too)))
      | inr other ↦
          let neither : same_key key q.row.key ≡ false = subst (λ (k : List ℕ). same_key key k ≡ false) (sym (same_eq q.row.key p.row.key parts.1)) other in
          ap (firsts None) (key_no key p rows other) ∙ sym (ap (firsts None) (key_no key p (q ∷ rows) other ∙ key_no key q rows neither))
    ]

-- a row of another place begins anew
begin_next : (key : List ℕ) (p q : Kept) (rows : List Kept) → same_place q p ≡ false
    → is_below q.row.key p.row.key ≡ false → RisesFrom key_of_kept q rows → same_key key p.row.key ≡ true
    → firsts None (of_key key (q ∷ rows)) ≡ firsts (Some p.end) (of_key key (q ∷ rows))
begin_next key p q rows e low up same = elim (cases_Bool (same_key key q.row.key)) [
  | inl too ↦
      let level : same_key q.row.key p.row.key ≡ true = same_yes q.row.key p.row.key (sym (same_eq key q.row.key too) ∙ same_eq key p.row.key same) in
      let apart : eqb q.end p.end ≡ false = not_true (eqb q.end p.end) (λ t. both_ways (same_place q p) e (and_from (eqb q.end p.end) (same_key q.row.key p.row.key) t level)) in
      ap (firsts None) (key_yes key q rows too) ∙ sym (first_next p q (of_key key rows) apart) ∙ ap (firsts (Some p.end)) (sym (key_yes key q rows too))
  | inr other ↦
      let higher : is_below key q.row.key ≡ true = above key q.row.key (subst (λ (k : List ℕ). is_below q.row.key k ≡ false) (sym (same_eq key p.row.key same)) low) other in
      let none : of_key key (q ∷ rows) ≡ [] = key_no key q rows other ∙ gone key q rows higher up in
      ap (firsts None) none ∙ ap (firsts (Some p.end)) (sym none)
]

step_next : (key : List ℕ) (p q : Kept) (rows left : List Kept) → same_place q p ≡ false
    → is_below q.row.key p.row.key ≡ false → RisesFrom key_of_kept q rows → of_key key left ≡ first_of key (q ∷ rows)
    → of_key key (p ∷ left) ≡ first_of key (p ∷ q ∷ rows)
step_next key p q rows left e low up ih = elim (cases_Bool (same_key key p.row.key)) [
  | inl same ↦
      key_yes key p left same
      ∙ ap (λ (l : List Kept). p ∷ l) (ih ∙ begin_next key p q rows e low up same)
      ∙ sym (ap (firsts None) (key_yes key p (q ∷ rows) same))
  | inr other ↦ key_no key p left other ∙ ih ∙ sym (ap (firsts None) (key_no key p (q ∷ rows) other))
]

one_first : (key : List ℕ) (p : Kept) → of_key key (p ∷ []) ≡ first_of key (p ∷ [])
one_first key p = at (same_key key p.row.key)
  where
    at : (b : Bool) → cond b (p ∷ []) [] ≡ firsts None (cond b (p ∷ []) [])
    at true = refl
    at false = refl

dedup_key_from : (key : List ℕ) (p : Kept) (rows : List Kept) → RisesFrom key_of_kept p rows
    → of_key key (dedup_from same_place p rows) ≡ first_of key (p ∷ rows)
dedup_key_from key p [] up = one_first key p
dedup_key_from key p (q ∷ rows) up = elim (cases_Bool (same_place q p)) [
  | inl e ↦
      let level = same_eq q.row.key p.row.key (and_parts (eqb q.end p.end) (same_key q.row.key p.row.key) e).1 in
      ap (of_key key) (again p q rows e) ∙ dedup_key_from key p rows (rises_as q p rows level up.1) ∙ skip_again key p q rows e
  | inr e ↦
      ap (of_key key) (next p q rows e) ∙ step_next key p q rows (dedup_from same_place q rows) e up.0 up.1 (dedup_key_from key q rows up.1)
]

pub dedup_key : (key : List ℕ) (rows : List Kept) → RisesBy key_of_kept rows
    → of_key key (dedup same_place rows) ≡ firsts None (of_key key rows)
dedup_key key [] up = refl
dedup_key key (p ∷ rows) up = dedup_key_from key p rows up

dedup_rises_from : (p q : Kept) (rows : List Kept) → is_below q.row.key p.row.key ≡ false
    → RisesFrom key_of_kept q rows → RisesFrom key_of_kept p (dedup_from same_place q rows)
dedup_rises_from p q [] low up = (low, tt)
dedup_rises_from p q (r ∷ rows) low up = elim (cases_Bool (same_place r q)) [
  | inl e ↦
      let level = same_eq r.row.key q.row.key (and_parts (eqb r.end q.end) (same_key r.row.key q.row.key) e).1 in
      subst (RisesFrom key_of_kept p) (sym (again q r rows e)) (dedup_rises_from p q rows low (rises_as r q rows level up.1))
  | inr e ↦ subst (RisesFrom key_of_kept p) (sym (next q r rows e)) (low, dedup_rises_from q r rows up.0 up.1)
]

pub dedup_rises : (rows : List Kept) → RisesBy key_of_kept rows → RisesBy key_of_kept (dedup same_place rows)
dedup_rises [] up = tt
dedup_rises (p ∷ rows) up = at rows up
  where
    at : (rows : List Kept) → RisesFrom key_of_kept p rows → RisesBy key_of_kept (dedup_from same_place p rows)
    at [] up = tt
    at (q ∷ rows) up = rises_rest p (dedup_from same_place p (q ∷ rows)) (dedup_rises_from p p (q ∷ rows) (below_self p.row.key) up)

-- the same in a list's word
from : (p : Kept) (rows : List Kept) → dedup_from (λ r s. eqb r.end s.end) p rows ≡ p ∷ firsts (Some p.end) rows
from p [] = refl
from p (q ∷ rows) = at (eqb q.end p.end) (from p rows) (from q rows)
  where
    at : (b : Bool) → dedup_from (λ r s. eqb r.end s.end) p rows ≡ p ∷ firsts (Some p.end) rows
        → dedup_from (λ r s. eqb r.end s.end) q rows ≡ q ∷ firsts (Some q.end) rows
        → cond b (dedup_from (λ r s. eqb r.end s.end) p rows) (p ∷ dedup_from (λ r s. eqb r.end s.end) q rows) ≡ p ∷ cond b (firsts (Some p.end) rows) (q ∷ firsts (Some q.end) rows)
    at true h i = h
    at false h i = ap (λ (l : List Kept). p ∷ l) i

pub dedup_firsts : (rows : List Kept) → dedup (λ r s. eqb r.end s.end) rows ≡ firsts None rows
dedup_firsts [] = refl
dedup_firsts (p ∷ rows) = from p rows

-- ---- without the deletes below which nothing stays

pub thinned_all : (rows : List Kept) → thinned false rows ≡ rows
thinned_all [] = refl
thinned_all (r ∷ rows) = ap (λ (l : List Kept). r ∷ l) (thinned_all rows)

thin_rises_from : (last : Bool) (p : Kept) (rows : List Kept) → RisesFrom key_of_kept p rows
    → RisesFrom key_of_kept p (thinned last rows)
thin_rises_from last p [] up = tt
thin_rises_from last p (r ∷ rows) up = at (last && is_delete r.row.op && not (is_next r.row.key (thinned last rows))) (thin_rises_from last r rows up.1)
  where
    at : (b : Bool) → RisesFrom key_of_kept r (thinned last rows)
        → RisesFrom key_of_kept p (cond b (thinned last rows) (r ∷ thinned last rows))
    at true h = rises_lower p r (thinned last rows) up.0 h
    at false h = (up.0, h)

pub thin_rises : (last : Bool) (rows : List Kept) → RisesBy key_of_kept rows → RisesBy key_of_kept (thinned last rows)
thin_rises last [] up = tt
thin_rises last (r ∷ rows) up = at (last && is_delete r.row.op && not (is_next r.row.key (thinned last rows))) (thin_rises_from last r rows up)
  where
    at : (b : Bool) → RisesFrom key_of_kept r (thinned last rows)
        → RisesBy key_of_kept (cond b (thinned last rows) (r ∷ thinned last rows))
    at true h = rises_rest r (thinned last rows) h
    at false h = h

-- the next row is of the key exactly where the key has a row left
next_is : (key : List ℕ) (r : Kept) (left : List Kept) → key ≡ r.row.key → RisesFrom key_of_kept r left
    → not (is_next r.row.key left) ≡ is_empty (of_key key left)
next_is key r [] e up = refl
next_is key r (q ∷ left) e up = elim (cases_Bool (same_key q.row.key r.row.key)) [
  | inl same ↦
      let own : same_key key q.row.key ≡ true = same_yes key q.row.key (e ∙ sym (same_eq q.row.key r.row.key same)) in
      ap not same ∙ sym (ap is_empty (key_yes key q left own))
  | inr other ↦
      let not_own : same_key key q.row.key ≡ false = same_no key q.row.key (λ is. both_ways (same_key q.row.key r.row.key) other (same_yes q.row.key r.row.key (sym is ∙ e))) in
      let higher : is_below key q.row.key ≡ true = above key q.row.key (subst (λ (k : List ℕ). is_below q.row.key k ≡ false) (sym e) up.0) not_own in
      ap not other ∙ sym (ap is_empty (key_no key q left not_own ∙ gone key q left higher up.1))
]

thin_own : (key : List ℕ) (r : Kept) (left : List Kept) (b : Bool) → same_key key r.row.key ≡ true
    → b ≡ (is_delete r.row.op && is_empty (of_key key left))
    → of_key key (cond b left (r ∷ left)) ≡ cond (is_delete r.row.op && is_empty (of_key key left)) [] (r ∷ of_key key left)
thin_own key r left true same e =
    let none : of_key key left ≡ [] = nothing (of_key key left) (and_parts (is_delete r.row.op) (is_empty (of_key key left)) (sym e)).1 in
    none ∙ ap (λ (b : Bool). cond b [] (r ∷ of_key key left)) e
  where
    nothing : (rows : List Kept) → is_empty rows ≡ true → rows ≡ []
    nothing [] h = refl
    nothing (x ∷ rows) h = absurd (cc h)
thin_own key r left false same e = key_yes key r left same ∙ ap (λ (b : Bool). cond b [] (r ∷ of_key key left)) e

thin_other : (key : List ℕ) (r : Kept) (left : List Kept) (b : Bool) → same_key key r.row.key ≡ false
    → of_key key (cond b left (r ∷ left)) ≡ of_key key left
thin_other key r left true other = refl
thin_other key r left false other = key_no key r left other

pub thin_key : (key : List ℕ) (rows : List Kept) → RisesBy key_of_kept rows
    → of_key key (thinned true rows) ≡ without_last_deletes (of_key key rows)
thin_key key [] up = refl
thin_key key (r ∷ rows) up =
    let left = thinned true rows in
    let ih : of_key key left ≡ without_last_deletes (of_key key rows) = thin_key key rows (rises_rest r rows up) in
    elim (cases_Bool (same_key key r.row.key)) [
      | inl same ↦
          let drops = ap (λ (b : Bool). is_delete r.row.op && b) (next_is key r left (same_eq key r.row.key same) (thin_rises_from true r rows up)) in
          thin_own key r left (is_delete r.row.op && not (is_next r.row.key left)) same drops
          ∙ ap (λ (l : List Kept). cond (is_delete r.row.op && is_empty l) [] (r ∷ l)) ih
          ∙ sym (ap without_last_deletes (key_yes key r rows same))
      | inr other ↦
          thin_other key r left (is_delete r.row.op && not (is_next r.row.key left)) other ∙ ih ∙ sym (ap without_last_deletes (key_no key r rows other))
    ]

-- ---- both

pub left_rises : (last : Bool) (rows : List Kept) → RisesBy key_of_kept rows
    → RisesBy key_of_kept (thinned last (dedup same_place rows))
left_rises last rows up = thin_rises last (dedup same_place rows) (dedup_rises rows up)

pub left_key : (last : Bool) (key : List ℕ) (rows : List Kept) → RisesBy key_of_kept rows
    → of_key key (thinned last (dedup same_place rows)) ≡ stays last (firsts None (of_key key rows))
left_key true key rows up = thin_key key (dedup same_place rows) (dedup_rises rows up) ∙ ap without_last_deletes (dedup_key key rows up)
left_key false key rows up = ap (of_key key) (thinned_all (dedup same_place rows)) ∙ dedup_key key rows up
