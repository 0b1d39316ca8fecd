-- The Obsolete numbers of a register, listed: what a report says is left.
use Rattle.std.proofs.Common.{◌≡◌, ◌≤◌, ◌+◌, ◌⊎◌, ⊎_elim, ℕ, zero, suc, Bool, true, false, cond, List, [], ◌∷◌, map, refl, sym, ap, subst, ◌∙◌, arith, inl, inr}
use Rattle.std.specs.List.{filter}
use Rattle.sv_model.specs.declared.records.FileStatus.{FileStatus}
use Rattle.sv_model.specs.declared.records.FileStatus.TheVariants.{Pending, Live, Obsolete, Grabbed, Gone}
use Rattle.sv_model.specs.declared.records.RegisteredFile.{RegisteredFile}
use Rattle.sv_model.specs.Lists.{In, same, times}
use Rattle.sv_model.specs.Numbers.{AreInOrder, IsRegistered, registered}
use Rattle.sv_model.specs.Summaries.{is_obsolete, obsolete_of, obsolete_registered}
use Rattle.sv_model.proofs.AscendingLists.{ascending_one, in-here, in-later, in_cons, in_none}
use Rattle.sv_model.proofs.Freed.{distinct_times}

obsolete_or : (s : FileStatus) → (s ≡ Obsolete) ⊎ (is_obsolete s ≡ false)
obsolete_or Pending = inr refl
obsolete_or Live = inr refl
obsolete_or Obsolete = inl refl
obsolete_or Grabbed = inr refl
obsolete_or Gone = inr refl

-- ---- what stands in the list
entry_later : (x : RegisteredFile) (numbers : List RegisteredFile) (n : ℕ) → IsRegistered numbers n Obsolete → IsRegistered (x ∷ numbers) n Obsolete
entry_later x numbers n (zero, y, e, s) = absurd (cc)
entry_later x numbers n (suc i, y, e, s) = (suc (suc i), y, e, s)

entry_cons : (x : RegisteredFile) (numbers : List RegisteredFile) (n : ℕ) → IsRegistered (x ∷ numbers) n Obsolete → ((x.number ≡ n) × (x.status ≡ Obsolete)) ⊎ IsRegistered numbers n Obsolete
entry_cons x numbers n (zero, y, e, s) = absurd (cc)
entry_cons x numbers n (suc zero, y, e, s) = let q : x ≡ y = cc in inl (ap (λ (z : RegisteredFile). z.number) q ∙ s.number_is, ap (λ (z : RegisteredFile). z.status) q ∙ s.status_is)
entry_cons x numbers n (suc (suc i), y, e, s) = inr (suc i, y, e, s)

pub listed : (numbers : List RegisteredFile) (n : ℕ) → In n (obsolete_registered numbers) → IsRegistered numbers n Obsolete
listed [] n i = absurd (in_none n i)
listed (x ∷ numbers) n i = elim (obsolete_or x.status) [
  | inl is ↦
      let here : obsolete_registered (x ∷ numbers) ≡ x.number ∷ obsolete_registered numbers = ap (λ s. map (λ (f : RegisteredFile). f.number) (cond (is_obsolete s) (x ∷ filter (λ f. is_obsolete f.status) numbers) (filter (λ f. is_obsolete f.status) numbers))) is in
      ⊎_elim (λ e. (1, x, refl, record { number_is = sym e; status_is = is })) (λ j. entry_later x numbers n (listed numbers n j)) (in_cons n x.number (obsolete_registered numbers) (subst (In n) here i))
  | inr not ↦
      let here : obsolete_registered (x ∷ numbers) ≡ obsolete_registered numbers = ap (λ b. map (λ (f : RegisteredFile). f.number) (cond b (x ∷ filter (λ f. is_obsolete f.status) numbers) (filter (λ f. is_obsolete f.status) numbers))) not in
      entry_later x numbers n (listed numbers n (subst (In n) here i))
]

pub lists : (numbers : List RegisteredFile) (n : ℕ) → IsRegistered numbers n Obsolete → In n (obsolete_registered numbers)
lists [] n (zero, y, e, s) = absurd (cc)
lists [] n (suc i, y, e, s) = absurd (cc)
lists (x ∷ numbers) n r = elim (obsolete_or x.status) [
  | inl is ↦
      let here : obsolete_registered (x ∷ numbers) ≡ x.number ∷ obsolete_registered numbers = ap (λ s. map (λ (f : RegisteredFile). f.number) (cond (is_obsolete s) (x ∷ filter (λ f. is_obsolete f.status) numbers) (filter (λ f. is_obsolete f.status) numbers))) is in
      subst (In n) (sym here) (⊎_elim (λ e. subst (λ m. In m (x.number ∷ obsolete_registered numbers)) e.0 (in-here x.number (obsolete_registered numbers))) (λ q. in-later n x.number (obsolete_registered numbers) (lists numbers n q)) (entry_cons x numbers n r))
  | inr not ↦
      let here : obsolete_registered (x ∷ numbers) ≡ obsolete_registered numbers = ap (λ b. map (λ (f : RegisteredFile). f.number) (cond b (x ∷ filter (λ f. is_obsolete f.status) numbers) (filter (λ f. is_obsolete f.status) numbers))) not in
      subst (In n) (sym here) (⊎_elim (λ e. absurd (no x e.1 not)) (λ q. lists numbers n q) (entry_cons x numbers n r))
]
  where
    no : (x : RegisteredFile) → x.status ≡ Obsolete → is_obsolete x.status ≡ false → ⊥
    no x is not = let t : is_obsolete x.status ≡ true = ap is_obsolete is in absurd (cc)

-- ---- none twice
times_le : (numbers : List RegisteredFile) (n : ℕ) → times n (obsolete_registered numbers) ≤ registered n numbers
times_le [] n = omega arith
times_le (x ∷ numbers) n = by_case (is_obsolete x.status) (times_le numbers n)
  where
    by_case : (b : Bool) → times n (obsolete_registered numbers) ≤ registered n numbers
        → times n (map (λ (f : RegisteredFile). f.number) (cond b (x ∷ filter (λ f. is_obsolete f.status) numbers) (filter (λ f. is_obsolete f.status) numbers))) ≤ same n x.number + registered n numbers
    by_case true h = omega (arith, h)
    by_case false h = omega (arith, h)

-- A list of them that ascends is the report's.
pub left_is : (numbers : List RegisteredFile) (given : List ℕ) → ((n : ℕ) → registered n numbers ≤ 1) → AreInOrder (λ n. IsRegistered numbers n Obsolete) given → given ≡ obsolete_of numbers
left_is numbers given once h =
    ascending_one (obsolete_registered numbers) given
    (distinct_times (obsolete_registered numbers) (λ n. (let le = times_le numbers n in let o = once n in omega arith)))
    h.rising
    (λ n. ((λ i. lists numbers n ((h.exact n).0 i)), (λ i. (h.exact n).1 (listed numbers n i))))
