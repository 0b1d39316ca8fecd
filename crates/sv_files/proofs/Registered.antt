-- Numbers that are registered once: where they stand, and what a push and a new status leave.
use Rattle.std.proofs.Common.{◌≡◌, ◌≢◌, ℕ, zero, suc, ◌+◌, ◌<◌, ◌≤◌, ◌⊎◌, inl, inr, ◌↔◌, Bool, true, false, cond, List, [], ◌∷◌, ◌++◌, length, Some, is_some, slice_get, arith, refl, sym, ap, ◌∙◌}
use Rattle.std.specs.Prelude.{if◌then◌else◌}
use Rattle.sv_model.specs.declared.records.RegisteredFile.{RegisteredFile}
use Rattle.sv_model.specs.declared.records.FileStatus.{FileStatus}
use Rattle.sv_model.specs.declared.records.FileStatus.TheVariants.{Pending, Live, Obsolete, Grabbed, Gone}
use Rattle.sv_model.specs.Lists.{total, same}
use Rattle.sv_model.specs.Numbers.{IsRegistered, captures, registered}
use Rattle.sv_model.specs.Registers.{entry, change}
use Rattle.sv_model.specs.Summaries.{is_obsolete}
use Rattle.sv_model.proofs.Lists.{total-push, total_at, at_total, same_here, same_other, same_is}
use Rattle.sv_model.proofs.Registers.{entry-old, entry-new, entry_push, entry-same, entry-else, entry_change}
use Rattle.sv_files.specs.Kept.{count_obsolete}
use Rattle.sv_model.proofs.Basics.{apart_or}

pub some_is : {A : Type 0} (x y : A) → Some x ≡ Some y → x ≡ y
some_is x y e = cc

-- the file with another status
abbrev pub with_status : RegisteredFile → FileStatus → RegisteredFile
with_status x status = record x { status = status }

-- ---- a number that is registered once stands at one place
pub registered-at : (l : List RegisteredFile) (p : ℕ) (x : RegisteredFile) → slice_get l p ≡ Some x → 0 < registered x.number l
registered-at l p x at =
    let one = same_here x.number in
    let h = total_at (λ z. same x.number z.number) l p x at in omega arith

pub at_registered : (l : List RegisteredFile) (n : ℕ) → 0 < registered n l → (p : ℕ) × (x : RegisteredFile) × (slice_get l p ≡ Some x) × (x.number ≡ n)
at_registered l n more =
    let h = at_total (λ z. same n z.number) l more in (h.0, h.1, h.2, sym (same_is n h.1.number h.3))

two_places : {A : Type 0} (g : A → ℕ) (l : List A) (i j : ℕ) (x y : A) → i ≢ j → slice_get l i ≡ Some x → slice_get l j ≡ Some y → g x + g y ≤ total g l
two_places g [] i j x y apart a b = absurd (cc)
two_places g (z ∷ l) zero zero x y apart a b = absurd (apart refl)
two_places g (z ∷ l) zero (suc j) x y apart a b = let e : z ≡ x = cc in let h = total_at g l j y b in omega (arith, ap g e)
two_places g (z ∷ l) (suc i) zero x y apart a b = let e : z ≡ y = cc in let h = total_at g l i x a in omega (arith, ap g e)
two_places g (z ∷ l) (suc i) (suc j) x y apart a b =
    let h = two_places g l i j x y (λ e. apart (ap suc e)) a b in omega arith

pub one_place : (l : List RegisteredFile) (n p q : ℕ) (x y : RegisteredFile) → registered n l ≤ 1 → slice_get l p ≡ Some x → slice_get l q ≡ Some y → x.number ≡ n → y.number ≡ n → p ≡ q
one_place l n p q x y once a b xn yn = elim (apart_or p q) [
  | inl e ↦ e
  | inr apart ↦
      let h = two_places (λ z. same n z.number) l p q x y apart a b in
      let one = same_here n in
      absurd (omega (arith, ap (same n) xn, ap (same n) yn))
]

pub one_entry : (l : List RegisteredFile) (n i j : ℕ) (x y : RegisteredFile) → registered n l ≤ 1 → entry l i ≡ Some x → entry l j ≡ Some y → x.number ≡ n → y.number ≡ n → i ≡ j
one_entry l n zero j x y once a b xn yn = absurd (cc)
one_entry l n (suc i) zero x y once a b xn yn = absurd (cc)
one_entry l n (suc i) (suc j) x y once a b xn yn = ap suc (one_place l n i j x y once a b xn yn)

-- the one file of a number has the status that it is registered with
pub status-is : (l : List RegisteredFile) (n i : ℕ) (x : RegisteredFile) (status : FileStatus) → registered n l ≤ 1 → entry l i ≡ Some x → x.number ≡ n → IsRegistered l n status → x.status ≡ status
status-is l n i x status once at is h =
    let one = one_entry l n h.0 i h.1 x once h.2 at h.3.number_is is in
    let same : h.1 ≡ x = some_is h.1 x (sym h.2 ∙ ap (entry l) one ∙ at) in
    ap (λ (z : RegisteredFile). z.status) (sym same) ∙ h.3.status_is

-- a registered number counts
pub registered-some : (l : List RegisteredFile) (n : ℕ) (status : FileStatus) → IsRegistered l n status → 0 < registered n l
registered-some l n status h = by-entry h.0 h.2
  where
    by-entry : (i : ℕ) → entry l i ≡ Some h.1 → 0 < registered n l
    by-entry zero at = absurd (cc)
    by-entry (suc p) at = let r = registered-at l p h.1 at in omega (arith, ap (λ k. registered k l) h.3.number_is)

-- ---- Obsolete ones
pub obsolete-is : (s : FileStatus) → (is_obsolete s ≡ true) ↔ (s ≡ Obsolete)
obsolete-is Obsolete = (λ _. refl, λ _. refl)
obsolete-is Pending = (λ e. absurd (cc), λ e. absurd (cc))
obsolete-is Live = (λ e. absurd (cc), λ e. absurd (cc))
obsolete-is Grabbed = (λ e. absurd (cc), λ e. absurd (cc))
obsolete-is Gone = (λ e. absurd (cc), λ e. absurd (cc))

pub bit-le : (b : Bool) → (if b then 1 else 0) ≤ 1
bit-le true = omega arith
bit-le false = omega arith

pub count-le : (l : List RegisteredFile) → count_obsolete l ≤ length l
count-le [] = omega arith
count-le (x ∷ l) = let h = count-le l in let b = bit-le (is_obsolete x.status) in omega arith

-- ---- one number more
pub registered_push : (l : List RegisteredFile) (y : RegisteredFile) (n : ℕ) → registered n (l ++ y ∷ []) ≡ registered n l + same n y.number
registered_push l y n = total-push (λ z. same n z.number) l y

pub once_push : (l : List RegisteredFile) (y : RegisteredFile) → ((n : ℕ) → registered n l ≤ 1) → registered y.number l ≡ 0 → (n : ℕ) → registered n (l ++ y ∷ []) ≤ 1
once_push l y once new n = elim (apart_or n y.number) [
  | inl e ↦ (let one = same_here n in omega (arith, registered_push l y n, ap (λ k. registered k l) e, ap (same n) e))
  | inr apart ↦ omega (arith, registered_push l y n, once n, same_other n y.number apart)
]

pub once-front : (l : List RegisteredFile) (y : RegisteredFile) → ((n : ℕ) → registered n (l ++ y ∷ []) ≤ 1) → ((n : ℕ) → registered n l ≤ 1) × (registered y.number l ≡ 0)
once-front l y once = (
  λ n. omega (arith, once n, registered_push l y n),
  (let one = same_here y.number in omega (arith, once y.number, registered_push l y y.number)),
)

-- what is registered after a push is the new number or was registered
pub push_is : (l : List RegisteredFile) (y : RegisteredFile) (n : ℕ) (status : FileStatus) → IsRegistered (l ++ y ∷ []) n status → IsRegistered l n status ⊎ ((n ≡ y.number) × (y.status ≡ status))
push_is l y n status h = elim (entry_push l y h.0 h.1 h.2) [
  | inl old ↦ inl (h.0, h.1, old, h.3)
  | inr new ↦ inr (sym h.3.number_is ∙ ap (λ (z : RegisteredFile). z.number) new.1, ap (λ (z : RegisteredFile). z.status) (sym new.1) ∙ h.3.status_is)
]

pub push-old : (l : List RegisteredFile) (y : RegisteredFile) (n : ℕ) (status : FileStatus) → IsRegistered l n status → IsRegistered (l ++ y ∷ []) n status
push-old l y n status h = (h.0, h.1, entry-old l (y ∷ []) h.0 h.1 h.2, h.3)

pub push-new : (l : List RegisteredFile) (y : RegisteredFile) → IsRegistered (l ++ y ∷ []) y.number y.status
push-new l y = (length l + 1, y, entry-new l y (length l + 1) refl, record { number_is = refl; status_is = refl })

-- ---- a new status
module _ (l : List RegisteredFile) (i : ℕ) (x : RegisteredFile) (now : FileStatus) (at : entry l i ≡ Some x) where
  pub registered_mark : (n : ℕ) → registered n (change l i (with_status x now)) ≡ registered n l
  registered_mark n = omega (arith, Rattle.sv_model.proofs.Registers.total-change (λ (z : RegisteredFile). same n z.number) l i x (with_status x now) at)

  pub captures_mark : captures (change l i (with_status x now)) ≡ captures l
  captures_mark = omega (arith, Rattle.sv_model.proofs.Registers.total-change (λ (z : RegisteredFile). cond (is_some z.family) 1 0) l i x (with_status x now) at)

  pub mark_is : (n : ℕ) (status : FileStatus) → IsRegistered (change l i (with_status x now)) n status → ((n ≡ x.number) × (status ≡ now)) ⊎ IsRegistered l n status
  mark_is n status h = elim (entry_change l i h.0 (with_status x now) h.1 h.2) [
    | inl here ↦ inl (sym h.3.number_is ∙ ap (λ (z : RegisteredFile). z.number) here.1, sym h.3.status_is ∙ ap (λ (z : RegisteredFile). z.status) here.1)
    | inr other ↦ inr (h.0, h.1, other.1, h.3)
  ]

  pub mark-other : (n : ℕ) (status : FileStatus) → n ≢ x.number → IsRegistered l n status → IsRegistered (change l i (with_status x now)) n status
  mark-other n status apart h = (h.0, h.1, entry-else l i h.0 (with_status x now) (λ e. apart (sym h.3.number_is ∙ ap (λ (z : RegisteredFile). z.number) (some_is h.1 x (sym h.2 ∙ ap (entry l) e ∙ at)))) ∙ h.2, h.3)

  pub mark-new : IsRegistered (change l i (with_status x now)) x.number now
  mark-new = (i, with_status x now, entry-same l i x (with_status x now) at, record { number_is = refl; status_is = refl })
