-- Laws of places: what making an object and ending one leave, and what the scan for a free place says.
use Rattle.std.proofs.Common.{◌≡◌, ◌≢◌, ℕ, zero, suc, ◌+◌, ◌<◌, ◌≤◌, ◌==◌, Bool, true, false, cond, not, inl, inr, List, [], ◌∷◌, ◌++◌, length, Option, Some, None, slice_get, set, replicate, arith, refl, sym, ap, subst, ◌∙◌, get_or, nat_lt}
use Rattle.std.specs.List.{position_or_len}
use Rattle.std.proofs.lemmas.Grind.{common_steps}
use Rattle.std.proofs.lemmas.Bool.{lt-ltb, cases_lt, eqb-true, eq-eqb}
use Rattle.std.proofs.lemmas.List.Quantifiers.{position-Some}
use Rattle.std.proofs.lemmas.Option.{slice_get-get_or}
use Rattle.sv_model.specs.Registers.{entry, change, Has}
use Rattle.sv_model.specs.Places.{first_free, taken, live_count, StandsAt, IsLeastFree, Housed}
use Rattle.sv_model.proofs.Basics.{apart_or}
use Rattle.sv_model.proofs.Lists.{total-push, total-set}
use Rattle.sv_model.proofs.Registers.{entry_le, entry-old, entry-new, entry_push, entry-same, entry-else, entry_change, total-change}

-- ---- no object and no place taken
none_taken : (n : ℕ) → taken (replicate n 0) ≡ 0
none_taken zero = refl
none_taken (suc n) = omega (arith, none_taken n)

none_held : (n p m : ℕ) → slice_get (replicate n 0) p ≡ Some (suc m) → ⊥
none_held zero p m is = cc
none_held (suc n) zero m is = let e : 0 ≡ suc m = cc in omega arith
none_held (suc n) (suc p) m is = none_held n p m is

none_there : {A : Type 0} (n : ℕ) (x : A) → entry [] n ≡ Some x → ⊥
none_there zero x is = cc
none_there (suc n) x is = cc

-- ---- what one place and one object count
one_taken : (n : ℕ) → 0 < n → ◌≡◌ {A = ℕ} (cond (n == 0) 0 1) 1
one_taken n more = grind (arith, common_steps)

taken_le_one : (n : ℕ) → cond (n == 0) 0 1 ≤ 1
taken_le_one n = grind (arith, common_steps)

one_live : (b : Bool) → b ≡ true → ◌≡◌ {A = ℕ} (cond b 1 0) 1
one_live b is = ap (λ c. cond c 1 0) is

none_live : (b : Bool) → b ≡ false → ◌≡◌ {A = ℕ} (cond b 1 0) 0
none_live b is = ap (λ c. cond c 1 0) is

-- ---- what stands at places after a write
place_same : (places : List ℕ) (p n m : ℕ) → slice_get places p ≡ Some m → slice_get (set places p n) p ≡ Some n
place_same places p n m was = entry-same places (suc p) m n was

place_else : (places : List ℕ) (p q n : ℕ) → q ≢ p → slice_get (set places p n) q ≡ slice_get places q
place_else places p q n apart = entry-else places (suc p) (suc q) n (λ e. apart (omega arith))

-- ---- what the scan for a free place says
taken-le : (places : List ℕ) → taken places ≤ length places
taken-le [] = omega arith
taken-le (x ∷ places) = omega (arith, taken-le places, taken_le_one x)

taken_free : (places : List ℕ) (p : ℕ) → slice_get places p ≡ Some 0 → taken places < length places
taken_free [] p is = absurd (cc)
taken_free (x ∷ places) zero is =
    let e : 0 ≡ x = cc in
    subst (λ y. cond (y == 0) 0 1 + taken places < suc (length places)) e (omega (arith, taken-le places))
taken_free (x ∷ places) (suc p) is = omega (arith, taken_free places p is, taken_le_one x)

no_free_next : (b : Bool) (places : List ℕ) → (length places ≤ position_or_len (λ id. id == 0) places → taken places ≡ length places) → suc (length places) ≤ cond (not b) (1 + position_or_len (λ id. id == 0) places) 0 → cond b 0 1 + taken places ≡ suc (length places)
no_free_next true places rest long = absurd (omega arith)
no_free_next false places rest long = let e = rest (omega arith) in omega arith

no_free : (places : List ℕ) → length places ≤ position_or_len (λ id. id == 0) places → taken places ≡ length places
no_free [] long = refl
no_free (x ∷ places) long = no_free_next (x == 0) places (no_free places) long

not_below : (m n : ℕ) → ◌≡◌ {A = Option ℕ} (cond (nat_lt m n) (Some m) None) None → n ≤ m
not_below m n none = elim (cases_lt m n) [
  | inl below ↦ (let e = lt-ltb m n below in
      let some : ◌≡◌ {A = Option ℕ} (Some m) None = sym (ap (λ b. cond b (Some m) None) e) ∙ none in absurd (cc))
  | inr above ↦ above
]

module _ {A : Type 0} (live : A → Bool) (place : A → ℕ) where
  pub housed_none : (n : ℕ) → Housed live place [] (replicate n 0)
  housed_none n = record {
    home = λ k x is alive. absurd (none_there k x is);
    held = λ p m is. absurd (none_held n p m is);
    count = none_taken n;
  }

  -- ---- a Live object is made at a free place
  home_push : (l : List A) (places : List ℕ) (x : A) (n : ℕ) → Housed live place l places → slice_get places (place x) ≡ Some 0 → n ≡ length l + 1 → (k : ℕ) (y : A) → entry (l ++ x ∷ []) k ≡ Some y → live y ≡ true → slice_get (set places (place x) n) (place y) ≡ Some k
  home_push l places x n h free e k y is alive = elim (entry_push l x k y is) [
    | inl old ↦
        let there = h.home k y old alive in
        let apart : place y ≢ place x = λ same. (
        let both : Some 0 ≡ Some k = sym free ∙ ap (slice_get places) (sym same) ∙ there in
        let k_is : 0 ≡ k = cc in
        let within = entry_le l k y old in absurd (omega arith)) in
        place_else places (place x) (place y) n apart ∙ there
    | inr new ↦
        let n_is : n ≡ k = omega arith in
        subst (λ (z : A). slice_get (set places (place x) n) (place z) ≡ Some k) (sym new.1)
        (place_same places (place x) n 0 free ∙ ap Some n_is)
  ]

  held_push : (l : List A) (places : List ℕ) (x : A) (n : ℕ) → Housed live place l places → slice_get places (place x) ≡ Some 0 → live x ≡ true → n ≡ length l + 1 → (p m : ℕ) → slice_get (set places (place x) n) p ≡ Some (suc m) → (y : A) × (entry (l ++ x ∷ []) (suc m) ≡ Some y) × StandsAt live place p y
  held_push l places x n h free alive e p m is = elim (apart_or p (place x)) [
    | inl here ↦
        let now : Some n ≡ Some (suc m) = sym (place_same places (place x) n 0 free) ∙ ap (slice_get (set places (place x) n)) (sym here) ∙ is in
        let n_is : n ≡ suc m = cc in
        (x, entry-new l x (suc m) (omega arith), record { is_live = alive; at = sym here })
    | inr apart ↦
        let old = h.held p m (sym (place_else places (place x) p n apart) ∙ is) in
        (old.0, entry-old l (x ∷ []) (suc m) old.0 old.1, old.2)
  ]

  pub housed_push : (l : List A) (places : List ℕ) (x : A) (n : ℕ) → Housed live place l places → slice_get places (place x) ≡ Some 0 → live x ≡ true → n ≡ length l + 1 → Housed live place (l ++ x ∷ []) (set places (place x) n)
  housed_push l places x n h free alive e = record {
    home = home_push l places x n h free e;
    held = held_push l places x n h free alive e;
    count = (
        let before = total-set (λ id. cond (id == 0) 0 1) places (place x) 0 n free in
        let after = total-push (λ y. cond (live y) 1 0) l x in
        let one = one_live (live x) alive in
        let new = one_taken n (omega arith) in
        let was = h.count in
        omega arith);
  }

  -- ---- a Live object ends
  home_end : (l : List A) (places : List ℕ) (n : ℕ) (x y : A) → Housed live place l places → entry l n ≡ Some x → live x ≡ true → live y ≡ false → (k : ℕ) (z : A) → entry (change l n y) k ≡ Some z → live z ≡ true → slice_get (set places (place x) 0) (place z) ≡ Some k
  home_end l places n x y h was alive gone k z is now = elim (entry_change l n k y z is) [
    | inl here ↦ let e : live z ≡ false = ap live here.1 ∙ gone in absurd (cc)
    | inr other ↦
        let there = h.home k z other.1 now in
        let apart : place z ≢ place x = λ same. (
        let both : Some k ≡ Some n = sym there ∙ ap (slice_get places) same ∙ h.home n x was alive in
        other.0 (cc)) in
        place_else places (place x) (place z) 0 apart ∙ there
  ]

  held_end : (l : List A) (places : List ℕ) (n : ℕ) (x y : A) → Housed live place l places → entry l n ≡ Some x → live x ≡ true → (p m : ℕ) → slice_get (set places (place x) 0) p ≡ Some (suc m) → (z : A) × (entry (change l n y) (suc m) ≡ Some z) × StandsAt live place p z
  held_end l places n x y h was alive p m is = elim (apart_or p (place x)) [
    | inl here ↦
        let now : Some 0 ≡ Some (suc m) = sym (place_same places (place x) 0 n (h.home n x was alive)) ∙ ap (slice_get (set places (place x) 0)) (sym here) ∙ is in
        let none : 0 ≡ suc m = cc in absurd (omega arith)
    | inr apart ↦
        let old = h.held p m (sym (place_else places (place x) p 0 apart) ∙ is) in
        let other : suc m ≢ n = λ same. (
        let both : Some old.0 ≡ Some x = sym old.1 ∙ ap (entry l) same ∙ was in
        let is_x : old.0 ≡ x = cc in
        apart (sym old.2.at ∙ ap place is_x)) in
        (old.0, entry-else l n (suc m) y other ∙ old.1, old.2)
  ]

  pub housed_end : (l : List A) (places : List ℕ) (n : ℕ) (x y : A) → Housed live place l places → entry l n ≡ Some x → live x ≡ true → live y ≡ false → Housed live place (change l n y) (set places (place x) 0)
  housed_end l places n x y h was alive gone = record {
    home = home_end l places n x y h was alive gone;
    held = held_end l places n x y h was alive;
    count = (
        let before = total-set (λ id. cond (id == 0) 0 1) places (place x) n 0 (h.home n x was alive) in
        let after = total-change (λ z. cond (live z) 1 0) l n x y was in
        let one = one_live (live x) alive in
        let none = none_live (live y) gone in
        let within = entry_le l n x was in
        let old = one_taken n (omega arith) in
        let e = h.count in
        omega arith);
  }

  -- ---- the Live object made last was never made
  home_pop : (l : List A) (places : List ℕ) (x : A) → Housed live place (l ++ x ∷ []) places → live x ≡ true → (k : ℕ) (y : A) → entry l k ≡ Some y → live y ≡ true → slice_get (set places (place x) 0) (place y) ≡ Some k
  home_pop l places x h alive k y is now =
      let there = h.home k y (entry-old l (x ∷ []) k y is) now in
      let last = h.home (length l + 1) x (entry-new l x (length l + 1) refl) alive in
      let within = entry_le l k y is in
      let apart : place y ≢ place x = λ same. (
      let both : Some k ≡ Some (length l + 1) = sym there ∙ ap (slice_get places) same ∙ last in
      let k_is : k ≡ length l + 1 = cc in omega arith) in
      place_else places (place x) (place y) 0 apart ∙ there

  held_pop : (l : List A) (places : List ℕ) (x : A) → Housed live place (l ++ x ∷ []) places → live x ≡ true → (p m : ℕ) → slice_get (set places (place x) 0) p ≡ Some (suc m) → (z : A) × (entry l (suc m) ≡ Some z) × StandsAt live place p z
  held_pop l places x h alive p m is = elim (apart_or p (place x)) [
    | inl here ↦
        let last = h.home (length l + 1) x (entry-new l x (length l + 1) refl) alive in
        let now : Some 0 ≡ Some (suc m) = sym (place_same places (place x) 0 (length l + 1) last) ∙ ap (slice_get (set places (place x) 0)) (sym here) ∙ is in
        let none : 0 ≡ suc m = cc in absurd (omega arith)
    | inr apart ↦
        let old = h.held p m (sym (place_else places (place x) p 0 apart) ∙ is) in
        elim (entry_push l x (suc m) old.0 old.1) [
          | inl before ↦ (old.0, before, old.2)
          | inr new ↦ absurd (apart (sym old.2.at ∙ ap place new.1))
        ]
  ]

  pub housed_pop : (l : List A) (places : List ℕ) (x : A) → Housed live place (l ++ x ∷ []) places → live x ≡ true → Housed live place l (set places (place x) 0)
  housed_pop l places x h alive = record {
    home = home_pop l places x h alive;
    held = held_pop l places x h alive;
    count = (
        let last = h.home (length l + 1) x (entry-new l x (length l + 1) refl) alive in
        let before = total-set (λ id. cond (id == 0) 0 1) places (place x) (length l + 1) 0 last in
        let after = total-push (λ y. cond (live y) 1 0) l x in
        let one = one_live (live x) alive in
        let old = one_taken (length l + 1) (omega arith) in
        let e = h.count in
        omega arith);
  }

  pub full_is : (l : List A) (places : List ℕ) → Housed live place l places → first_free places ≡ None → live_count live l ≡ length places
  full_is l places h none =
      sym h.count ∙ no_free places (not_below (position_or_len (λ id. id == 0) places) (length places) none)

  -- the place that the scan gives is the least free one
  nothing_there : (l : List A) (places : List ℕ) (p : ℕ) → Housed live place l places → slice_get places p ≡ Some 0 → Has (StandsAt live place p) l → ⊥
  nothing_there l places p h free there =
      let home = h.home there.0 there.1 there.2 there.3.is_live in
      let both : Some there.0 ≡ Some 0 = sym home ∙ ap (slice_get places) there.3.at ∙ free in
      let none : there.0 ≡ 0 = cc in
      let within = entry_le l there.0 there.1 there.2 in omega arith

  -- at a place that is taken stands the Live object of its id
  pub held_id : (l : List A) (places : List ℕ) (p v : ℕ) → Housed live place l places → slice_get places p ≡ Some v → v ≢ 0 → (x : A) × (entry l v ≡ Some x) × StandsAt live place p x
  held_id l places p zero h is some = absurd (some refl)
  held_id l places p (suc v) h is some = h.held p v is

  one_there : (l : List A) (places : List ℕ) (p v : ℕ) → Housed live place l places → slice_get places p ≡ Some v → (v == 0) ≡ false → Has (StandsAt live place p) l
  one_there l places p v h is held =
      let x = held_id l places p v h is (λ e. (let t : (v == 0) ≡ true = eq-eqb v 0 e in cc)) in (v, x.0, x.1, x.2)

  pub least_is : (l : List A) (places : List ℕ) (p : ℕ) → Housed live place l places → first_free places ≡ Some p → (slice_get places p ≡ Some 0) × (p < length places) × (live_count live l < length places) × IsLeastFree live place l p
  least_is l places p h some =
      let s = position-Some (λ id. id == 0) places p 0 some in
      let zero_is : get_or places p 0 ≡ 0 = eqb-true (get_or places p 0) 0 s.1 in
      let free : slice_get places p ≡ Some 0 = slice_get-get_or places p 0 s.0 ∙ ap Some zero_is in
      let room = taken_free places p free in
      let count = h.count in (
        free,
        s.0,
        omega arith,
        record {
          free = nothing_there l places p h free;
          lower = λ q below. one_there l places q (get_or places q 0) h (slice_get-get_or places q 0 (omega (arith, s.0))) (s.2 q below);
        },
      )
