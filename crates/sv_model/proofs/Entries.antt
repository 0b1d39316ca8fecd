-- Small laws on lists and registers.
use Rattle.std.proofs.Common.{◌≡◌, ◌+◌, ℕ, zero, suc, ◌⊎◌, inl, inr, ⊎_elim, List, [], ◌∷◌, ◌++◌, length, Some, None, slice_get, refl, sym, ap, subst, arith}
use Rattle.sv_model.specs.Registers.{entry, Has}
use Rattle.sv_model.specs.Lists.{In, Every}
use Rattle.sv_model.proofs.Registers.{entry-old, entry-new, entry_push}

pub some : {A : Type 0} {x y : A} → Some x ≡ Some y → x ≡ y
some {A} {x} {y} e = cc

pub get_one : {A : Type 0} (x : A) (n : ℕ) (y : A) → slice_get (x ∷ []) n ≡ Some y → (n ≡ 0) × (y ≡ x)
get_one x zero y e = (refl, sym (some e))
get_one x (suc n) y e = absurd (cc)

pub entry_one : {A : Type 0} (x : A) (n : ℕ) (y : A) → entry (x ∷ []) n ≡ Some y → (n ≡ 1) × (y ≡ x)
entry_one x zero y e = absurd (cc)
entry_one x (suc n) y e = let h = get_one x n y e in (omega (arith, h.0), h.1)

pub get_none : {A : Type 0} (n : ℕ) (y : A) → slice_get [] n ≡ Some y → ⊥
get_none n y e = absurd (cc)

pub entry_none : {A : Type 0} (n : ℕ) (y : A) → entry [] n ≡ Some y → ⊥
entry_none zero y e = absurd (cc)
entry_none (suc n) y e = get_none n y e

pub every_none : {A : Type 0} (P : A → Type 0) → Every P []
every_none P i x e = absurd (get_none i x e)

pub get_push : {A : Type 0} (l : List A) (y : A) (n : ℕ) (x : A) → slice_get (l ++ y ∷ []) n ≡ Some x
    → (slice_get l n ≡ Some x) ⊎ (x ≡ y)
get_push [] y zero x is = inr (sym (some is))
get_push [] y (suc n) x is = absurd (cc)
get_push (z ∷ l) y zero x is = inl is
get_push (z ∷ l) y (suc n) x is = get_push l y n x is

pub every_push : {A : Type 0} (P : A → Type 0) (l : List A) (y : A) → Every P l → P y → Every P (l ++ y ∷ [])
every_push P l y all here i x e = ⊎_elim (λ h. all i x h) (λ h. subst P (sym h) here) (get_push l y i x e)

pub in-cons : {A : Type 0} (m k : A) (l : List A) → In m (k ∷ l) → (m ≡ k) ⊎ In m l
in-cons m k l i = by i.at i.is
  where
    by : (n : ℕ) → slice_get (k ∷ l) n ≡ Some m → (m ≡ k) ⊎ In m l
    by zero e = inl (let q : k ≡ m = cc in sym q)
    by (suc n) e = inr (record { at = n; is = e })

pub in-suc : {A : Type 0} (m k : A) (l : List A) → In m l → In m (k ∷ l)
in-suc m k l i = record { at = suc i.at; is = i.is }

pub in-none : {A : Type 0} (m : A) → In m [] → ⊥
in-none m i = let q : None ≡ Some m = i.is in absurd (cc)

pub in-left : {A : Type 0} (m : A) (xs ys : List A) → In m xs → In m (xs ++ ys)
in-left m [] ys i = absurd (in-none m i)
in-left m (x ∷ xs) ys i =
    ⊎_elim
    (λ q. record { at = 0; is = ap Some (sym q) })
    (λ j. in-suc m x (xs ++ ys) (in-left m xs ys j))
    (in-cons m x xs i)

pub in-right : {A : Type 0} (m : A) (xs ys : List A) → In m ys → In m (xs ++ ys)
in-right m [] ys i = i
in-right m (x ∷ xs) ys i = in-suc m x (xs ++ ys) (in-right m xs ys i)

pub in_append : {A : Type 0} (m : A) (xs ys : List A) → In m (xs ++ ys) → In m xs ⊎ In m ys
in_append m [] ys i = inr i
in_append m (x ∷ xs) ys i =
    ⊎_elim
    (λ q. inl (record { at = 0; is = ap Some (sym q) }))
    (λ j. ⊎_elim (λ o. inl (in-suc m x xs o)) (λ o. inr o) (in_append m xs ys j))
    (in-cons m x (xs ++ ys) i)

-- ---- what is so of some record, after a push
module _ {A : Type 0} (P : A → Type 0) (l : List A) (y : A) where
  pub has-old : Has P l → Has P (l ++ y ∷ [])
  has-old h = (h.0, h.1, entry-old l (y ∷ []) h.0 h.1 h.2, h.3)

  pub has-new : P y → Has P (l ++ y ∷ [])
  has-new p = (length l + 1, y, entry-new l y (length l + 1) refl, p)

  pub has_push : Has P (l ++ y ∷ []) → Has P l ⊎ P y
  has_push h = ⊎_elim (λ o. inl (h.0, h.1, o, h.3)) (λ o. inr (subst P o.1 h.3)) (entry_push l y h.0 h.1 h.2)
