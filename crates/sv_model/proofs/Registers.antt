-- Laws of registers: what an entry is after a push or a change, and sums over a register.
use Rattle.std.proofs.Common.{◌≡◌, ◌≢◌, ℕ, zero, suc, ◌+◌, ◌<◌, ◌≤◌, ◌⊎◌, inl, inr, List, [], ◌∷◌, ◌++◌, length, get_or, Some, slice_get, set, arith, refl, sym, ap, subst, ◌∙◌, length-set}
use Rattle.std.proofs.lemmas.Option.{slice_get_within, slice_get_read}
use Rattle.sv_model.specs.Lists.{total}
use Rattle.sv_model.specs.Registers.{entry, change, Has, GoesOn}
use Rattle.sv_model.proofs.Basics.{apart_or}
use Rattle.sv_model.proofs.Lists.{total_at, at_total, total-set}

-- ---- entries
pub entry_le : {A : Type 0} (l : List A) (n : ℕ) (x : A) → entry l n ≡ Some x → (0 < n) × (n ≤ length l)
entry_le l zero x is = absurd (cc)
entry_le l (suc n) x is = let h = slice_get_within l n x is in (omega arith, omega arith)

get-old : {A : Type 0} (l m : List A) (n : ℕ) (x : A) → slice_get l n ≡ Some x → slice_get (l ++ m) n ≡ Some x
get-old [] m n x is = absurd (cc)
get-old (y ∷ l) m zero x is = is
get-old (y ∷ l) m (suc n) x is = get-old l m n x is

get-new : {A : Type 0} (l : List A) (y : A) → slice_get (l ++ y ∷ []) (length l) ≡ Some y
get-new [] y = refl
get-new (x ∷ l) y = get-new l y

get_push : {A : Type 0} (l : List A) (y : A) (n : ℕ) (x : A) → slice_get (l ++ y ∷ []) n ≡ Some x → (slice_get l n ≡ Some x) ⊎ ((n ≡ length l) × (x ≡ y))
get_push [] y zero x is = inr (refl, (let e : y ≡ x = cc in sym e))
get_push [] y (suc n) x is = absurd (cc)
get_push (z ∷ l) y zero x is = inl is
get_push (z ∷ l) y (suc n) x is = elim (get_push l y n x is) [
  | inl old ↦ inl old
  | inr new ↦ inr (ap suc new.0, new.1)
]

pub get-some : {A : Type 0} (l : List A) (n : ℕ) → n < length l → (x : A) × (slice_get l n ≡ Some x)
get-some [] n h = absurd (omega arith)
get-some (x ∷ l) zero h = (x, refl)
get-some (x ∷ l) (suc n) h = get-some l n (omega arith)

pub entry-some : {A : Type 0} (l : List A) (n : ℕ) → 0 < n → n ≤ length l → (x : A) × (entry l n ≡ Some x)
entry-some l zero p q = absurd (omega arith)
entry-some l (suc n) p q = get-some l n (omega arith)

-- what was an entry is one after a push
pub entry-old : {A : Type 0} (l m : List A) (n : ℕ) (x : A) → entry l n ≡ Some x → entry (l ++ m) n ≡ Some x
entry-old l m zero x is = absurd (cc)
entry-old l m (suc n) x is = get-old l m n x is

-- the last entry
pub entry-new : {A : Type 0} (l : List A) (y : A) (n : ℕ) → n ≡ length l + 1 → entry (l ++ y ∷ []) n ≡ Some y
entry-new l y n e = subst (λ k. entry (l ++ y ∷ []) k ≡ Some y) (let h : suc (length l) ≡ n = omega arith in h) (get-new l y)

-- an entry after a push is an old one or the last one
pub entry_push : {A : Type 0} (l : List A) (y : A) (n : ℕ) (x : A) → entry (l ++ y ∷ []) n ≡ Some x → (entry l n ≡ Some x) ⊎ ((n ≡ length l + 1) × (x ≡ y))
entry_push l y zero x is = absurd (cc)
entry_push l y (suc n) x is = elim (get_push l y n x is) [
  | inl old ↦ inl old
  | inr new ↦ inr (let e = new.0 in omega arith, new.1)
]

get-same : {A : Type 0} (l : List A) (n : ℕ) (x y : A) → slice_get l n ≡ Some x → slice_get (set l n y) n ≡ Some y
get-same [] n x y is = absurd (cc)
get-same (z ∷ l) zero x y is = refl
get-same (z ∷ l) (suc n) x y is = get-same l n x y is

get-else : {A : Type 0} (l : List A) (n k : ℕ) (y : A) → k ≢ n → slice_get (set l n y) k ≡ slice_get l k
get-else [] n k y apart = refl
get-else (z ∷ l) zero zero y apart = absurd (apart refl)
get-else (z ∷ l) zero (suc k) y apart = refl
get-else (z ∷ l) (suc n) zero y apart = refl
get-else (z ∷ l) (suc n) (suc k) y apart = get-else l n k y (λ e. apart (ap suc e))

-- the changed entry
pub entry-same : {A : Type 0} (l : List A) (n : ℕ) (x y : A) → entry l n ≡ Some x → entry (change l n y) n ≡ Some y
entry-same l zero x y is = absurd (cc)
entry-same l (suc n) x y is = get-same l n x y is

-- each other entry
pub entry-else : {A : Type 0} (l : List A) (n k : ℕ) (y : A) → k ≢ n → entry (change l n y) k ≡ entry l k
entry-else l zero k y apart = refl
entry-else l (suc n) zero y apart = refl
entry-else l (suc n) (suc k) y apart = get-else l n k y (λ e. apart (ap suc e))

set_same : {A : Type 0} (l : List A) (n : ℕ) (y x : A) → slice_get (set l n y) n ≡ Some x → x ≡ y
set_same [] n y x is = absurd (cc)
set_same (z ∷ l) zero y x is = let e : y ≡ x = cc in sym e
set_same (z ∷ l) (suc n) y x is = set_same l n y x is

change_same : {A : Type 0} (l : List A) (n : ℕ) (y x : A) → entry (change l n y) n ≡ Some x → x ≡ y
change_same l zero y x is = absurd (cc)
change_same l (suc n) y x is = set_same l n y x is

-- an entry after a change is the new record or that of another object
pub entry_change : {A : Type 0} (l : List A) (n k : ℕ) (y x : A) → entry (change l n y) k ≡ Some x → ((k ≡ n) × (x ≡ y)) ⊎ ((k ≢ n) × (entry l k ≡ Some x))
entry_change l n k y x is = elim (apart_or k n) [
  | inl here ↦ inl (here, change_same l n y x (subst (λ i. entry (change l n y) i ≡ Some x) here is))
  | inr apart ↦ inr (apart, sym (entry-else l n k y apart) ∙ is)
]

pub length-change : {A : Type 0} (l : List A) (n : ℕ) (y : A) → length (change l n y) ≡ length l
length-change l zero y = refl
length-change l (suc n) y = length-set l n y

-- what the code reads and writes at index n - 1
pub entry-code : {A : Type 0} (l : List A) (n i : ℕ) (x : A) → n ≡ i + 1 → i < length l → x ≡ get_or l i x → entry l n ≡ Some x
entry-code l n i x e within read = subst (λ k. entry l k ≡ Some x) (let h : suc i ≡ n = omega arith in h) (slice_get_read l (length l) i x refl within read)

pub change-code : {A : Type 0} (l : List A) (n i : ℕ) (y : A) → n ≡ i + 1 → set l i y ≡ change l n y
change-code l n i y e = subst (λ k. set l i y ≡ change l k y) (let h : suc i ≡ n = omega arith in h) refl

-- ---- registers that go on
pub goes-same : {A : Type 0} (R : A → A → Type 0) (l : List A) → ((x : A) → R x x) → GoesOn R l l
goes-same R l itself n x is = (x, is, itself x)

pub goes-push : {A : Type 0} (R : A → A → Type 0) (l : List A) (y : A) → ((x : A) → R x x) → GoesOn R l (l ++ y ∷ [])
goes-push R l y itself n x is = (x, entry-old l (y ∷ []) n x is, itself x)

pub goes-on : {A : Type 0} (R : A → A → Type 0) (a b c : List A) → ((x y z : A) → R x y → R y z → R x z) → GoesOn R a b → GoesOn R b c → GoesOn R a c
goes-on R a b c through first then n x is =
    let p = first n x is in
    let q = then n p.0 p.1 in
    (q.0, q.1, through x p.0 q.0 p.2 q.2)

pub goes-change : {A : Type 0} (R : A → A → Type 0) (l : List A) (n : ℕ) (x y : A) → ((z : A) → R z z) → entry l n ≡ Some x → R x y → GoesOn R l (change l n y)
goes-change {A} R l n x y itself was related k z is = elim (apart_or k n) [
  | inl here ↦ (
    y,
    subst (λ i. entry (change l n y) i ≡ Some y) (sym here) (entry-same l n x y was),
    (let e : Some x ≡ Some z = sym was ∙ subst (λ i. entry l i ≡ Some z) here is in
        let f : x ≡ z = cc in
        subst (λ w. R w y) f related),
  )
  | inr apart ↦ (z, entry-else l n k y apart ∙ is, itself z)
]

-- ---- sums over a register
pub total_entry : {A : Type 0} (g : A → ℕ) (l : List A) (n : ℕ) (x : A) → entry l n ≡ Some x → g x ≤ total g l
total_entry g l zero x is = absurd (cc)
total_entry g l (suc n) x is = total_at g l n x is

-- a sum above 0 has an entry above 0
pub has_total : {A : Type 0} (g : A → ℕ) (l : List A) → 0 < total g l → Has (λ x. 0 < g x) l
has_total g l more = let h = at_total g l more in (suc h.0, h.1, h.2, h.3)

pub total-change : {A : Type 0} (g : A → ℕ) (l : List A) (n : ℕ) (x y : A) → entry l n ≡ Some x → total g (change l n y) + g x ≡ total g l + g y
total-change g l zero x y is = absurd (cc)
total-change g l (suc n) x y is = total-set g l n x y is

-- the registers without their first records go on too
pub goes-rest : {A : Type 0} (R : A → A → Type 0) (x y : A) (a b : List A) → GoesOn R (x ∷ a) (y ∷ b) → GoesOn R a b
goes-rest R x y a b g zero z e = absurd (cc)
goes-rest R x y a b g (suc n) z e = g (suc (suc n)) z e
