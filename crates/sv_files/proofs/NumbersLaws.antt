-- The laws of file numbers are kept by a new status, by the end of a capture and by a capture.
use Rattle.std.proofs.Common.{◌≡◌, ◌≢◌, ◌<◌, ◌≤◌, ℕ, zero, suc, ◌+◌, replicate, ◌⊎◌, inl, inr, ⊎_elim, List, [], ◌∷◌, ◌++◌, length, Option, Some, None, is_some, slice_get, set, refl, sym, ap, ◌∙◌, subst, arith}
use Rattle.sv_model.specs.declared.records.RegisteredFile.{RegisteredFile}
use Rattle.sv_model.specs.declared.records.FileStatus.{FileStatus}
use Rattle.sv_model.specs.declared.records.FileStatus.TheVariants.{Pending, Grabbed}
use Rattle.sv_model.specs.Numbers.{IsMarked, IsRegistered, NumbersStand, captures, least_captured, registered}
use Rattle.sv_model.specs.Registers.{entry, change}
use Rattle.sv_model.proofs.Registers.{entry-old, entry-new, entry_push, entry-same, entry-else, entry_change}
use Rattle.sv_files.proofs.Registered.{some_is, with_status, one_entry, status-is, once_push, registered-at, registered_mark, captures_mark}
use Rattle.sv_model.proofs.Basics.{apart_or, none_some}

-- ---- the bound
-- a number is below the bound exactly where it is below each captured number
pub below-bound : (captured : List (Option ℕ)) (n : ℕ) → n < least_captured captured → (f k : ℕ) → slice_get captured f ≡ Some (Some k) → n < k
below-bound [] n low f k at = absurd (cc)
below-bound (None ∷ captured) n low zero k at = absurd (none_some k (some_is None (Some k) at))
below-bound (None ∷ captured) n low (suc f) k at = below-bound captured n low f k at
below-bound (Some m ∷ captured) n low zero k at = let e = some_is m k (some_is (Some m) (Some k) at) in omega arith
below-bound (Some m ∷ captured) n low (suc f) k at = below-bound captured n (omega arith) f k at

-- ---- a number's status changes
-- a number that is registered once had the status that it is registered with
abbrev pub marked-was : (n : ℕ) (was had now : FileStatus) (N K : List RegisteredFile) → registered n N ≤ 1 → IsMarked n was now N K → IsRegistered N n had → IsMarked n had now N K
marked-was n was had now N K once m h = record {
  at = m.at;
  it = m.it;
  found = m.found;
  had = record { number_is = m.had.number_is; status_is = status-is N n m.at m.it had once m.found m.had.number_is h };
  marked = m.marked;
}

module _ (n : ℕ) (was now : FileStatus) (N K : List RegisteredFile) (m : IsMarked n was now N K) where
  abbrev y : RegisteredFile
  y = with_status m.it now

  turn : (R : List RegisteredFile → Type 0) → R (change N m.at y) → R K
  turn R h = subst R (sym m.marked) h

  -- an entry is an old one or that of the number
  marked_entry : (i : ℕ) (x : RegisteredFile) → entry K i ≡ Some x → ((i ≡ m.at) × (x ≡ y)) ⊎ ((i ≢ m.at) × (entry N i ≡ Some x))
  marked_entry i x e = entry_change N m.at i y x (subst (λ l. entry l i ≡ Some x) m.marked e)

  marked-else : (i : ℕ) (x : RegisteredFile) → i ≢ m.at → entry N i ≡ Some x → entry K i ≡ Some x
  marked-else i x d e = turn (λ l. entry l i ≡ Some x) (entry-else N m.at i y d ∙ e)

  pub marked-captures : captures K ≡ captures N
  marked-captures = turn (λ l. captures l ≡ captures N) (captures_mark N m.at m.it now m.found)

  pub marked-registered : (k : ℕ) → registered k K ≡ registered k N
  marked-registered k = turn (λ l. registered k l ≡ registered k N) (registered_mark N m.at m.it now m.found k)

  -- `C` and `D` are the captured numbers before and after.
  pub numbers-marked : (C D : List (Option ℕ)) (next : ℕ) → NumbersStand N C next
      → (now ≡ Pending → ⊥)
      → ((g k : ℕ) → slice_get D g ≡ Some (Some k) → (slice_get C g ≡ Some (Some k)) × (k ≢ n))
      → ((g k : ℕ) → slice_get C g ≡ Some (Some k) → k ≢ n → slice_get D g ≡ Some (Some k))
      → (now ≡ Grabbed → (g k : ℕ) → slice_get C g ≡ Some (Some k) → n < k)
      → NumbersStand K D next
  numbers-marked C D next law not_pending back on low = record {
    once = λ k. omega (arith, law.once k, marked-registered k);
    below = λ i x e. ⊎_elim (λ q. omega (arith, law.below m.at m.it m.found, ap (λ (z : RegisteredFile). z.number) q.1)) (λ q. law.below i x q.1) (marked_entry i x e);
    pending = λ i x e p. ⊎_elim
        (λ q. absurd (not_pending (ap (λ (z : RegisteredFile). z.status) (sym q.1) ∙ p)))
        (λ q. let t = law.pending i x q.1 p in (t.0, t.1, on t.0 x.number t.2 (λ o. q.0 (one_entry N n i m.at x m.it (law.once n) q.1 m.found o m.had.number_is))))
        (marked_entry i x e);
    held = λ g k e. let t = back g k e in let w = law.held g k t.0 in
        (w.0, w.1, marked-else w.0 w.1 (λ q. t.1 (sym w.3.number_is ∙ ap (λ (z : RegisteredFile). z.number) (some_is w.1 m.it (sym w.2 ∙ ap (entry N) q ∙ m.found)) ∙ m.had.number_is)) w.2, w.3);
    drawn = λ i x e p. ⊎_elim
        (λ q. (let t = law.drawn m.at m.it m.found (ap (λ (z : RegisteredFile). is_some z.family) (sym q.1) ∙ p) in omega (arith, t, ap (λ (z : RegisteredFile). z.number) q.1)))
        (λ q. law.drawn i x q.1 p)
        (marked_entry i x e);
    grabbed = λ i x e p g k c. let t = back g k c in ⊎_elim
        (λ q. let l = low (ap (λ (z : RegisteredFile). z.status) (sym q.1) ∙ p) g k t.0 in omega (arith, l, ap (λ (z : RegisteredFile). z.number) q.1, m.had.number_is))
        (λ q. law.grabbed i x q.1 p g k t.0)
        (marked_entry i x e);
    least = law.least;
    most = law.most;
  }

  -- A number that is not Pending is captured for no family.
  not-captured : (C : List (Option ℕ)) (next : ℕ) → NumbersStand N C next → (was ≡ Pending → ⊥) → (g k : ℕ) → slice_get C g ≡ Some (Some k) → k ≢ n
  not-captured C next law was_not g k e q =
      let w = law.held g k e in
      let here = one_entry N n w.0 m.at w.1 m.it (law.once n) w.2 m.found (w.3.number_is ∙ q) m.had.number_is in
      let is : w.1 ≡ m.it = some_is w.1 m.it (sym w.2 ∙ ap (entry N) here ∙ m.found) in
      was_not (sym m.had.status_is ∙ ap (λ (z : RegisteredFile). z.status) (sym is) ∙ w.3.status_is)

  pub numbers-regraded : (C : List (Option ℕ)) (next : ℕ) → NumbersStand N C next → (was ≡ Pending → ⊥) → (now ≡ Pending → ⊥)
      → (now ≡ Grabbed → (g k : ℕ) → slice_get C g ≡ Some (Some k) → n < k) → NumbersStand K C next
  numbers-regraded C next law was_not not_now low =
      numbers-marked C C next law not_now (λ g k e. (e, not-captured C next law was_not g k e)) (λ g k e q. e) low

-- ---- a captured number is settled
module _ (f n : ℕ) (now : FileStatus) (N K : List RegisteredFile) (C : List (Option ℕ)) (next : ℕ) (m : IsMarked n Pending now N K) (law : NumbersStand N C next) (of : m.it.family ≡ Some f) where
  -- the family's captured number is this one
  pub settled-at : slice_get C f ≡ Some (Some n)
  settled-at =
      let p = law.pending m.at m.it m.found m.had.status_is in
      let f_is : p.0 ≡ f = some_is p.0 f (sym p.1 ∙ of) in
      ap (slice_get C) (sym f_is) ∙ p.2 ∙ ap (λ (k : ℕ). Some (Some k)) m.had.number_is

  -- and that of no other family
  pub settled_only : (g : ℕ) → slice_get C g ≡ Some (Some n) → g ≡ f
  settled_only g e =
      let w = law.held g n e in
      let here = one_entry N n w.0 m.at w.1 m.it (law.once n) w.2 m.found w.3.number_is m.had.number_is in
      let is : w.1 ≡ m.it = some_is w.1 m.it (sym w.2 ∙ ap (entry N) here ∙ m.found) in
      some_is g f (sym w.3.family_is ∙ ap (λ (z : RegisteredFile). z.family) is ∙ of)

  others : (g : ℕ) → g ≢ f → slice_get (set C f None) g ≡ slice_get C g
  others g d = entry-else C (suc f) (suc g) None (λ q. d (let e : g ≡ f = omega (arith, q) in e))

  pub numbers-settled : (now ≡ Pending → ⊥) → (now ≡ Grabbed → ⊥) → NumbersStand K (set C f None) next
  numbers-settled not_pending not_grabbed = numbers-marked n Pending now N K m C (set C f None) next law not_pending
      (λ g k e. elim (apart_or g f) [
        | inl here ↦ absurd (none_some k (some_is None (Some k) (sym (entry-same C (suc f) (Some n) None settled-at) ∙ ap (slice_get (set C f None)) (sym here) ∙ e)))
        | inr apart ↦ (sym (others g apart) ∙ e, λ q. apart (settled_only g (sym (others g apart) ∙ e ∙ ap (λ (j : ℕ). Some (Some j)) q)))
      ])
      (λ g k e d. others g (λ q. d (some_is k n (some_is (Some k) (Some n) (sym e ∙ ap (slice_get C) q ∙ settled-at)))) ∙ e)
      (λ e. absurd (not_grabbed e))

-- ---- a number more
-- no number from the next one on is registered
pub next-new : (N : List RegisteredFile) (C : List (Option ℕ)) (next n : ℕ) → NumbersStand N C next → next ≤ n → registered n N ≡ 0
next-new N C next n law le = elim (zero-or (registered n N)) [
  | inl none ↦ none
  | inr some ↦
      let r = Rattle.sv_files.proofs.Registered.at_registered N n some in
      let b = law.below (suc r.0) r.1 r.2 in absurd (omega (arith, r.3))
]
  where
    zero-or : (k : ℕ) → (k ≡ 0) ⊎ (0 < k)
    zero-or k = grind arith

abbrev pub fresh : ℕ → ℕ → RegisteredFile
fresh next f = record { number = next; status = Pending; family = Some f }

module _ (N : List RegisteredFile) (C : List (Option ℕ)) (next f : ℕ) (law : NumbersStand N C next) (idle : slice_get C f ≡ Some None) where
  abbrev D : List (Option ℕ)
  D = set C f (Some next)

  captured_is : (g k : ℕ) → slice_get D g ≡ Some (Some k) → ((g ≡ f) × (k ≡ next)) ⊎ ((g ≢ f) × (slice_get C g ≡ Some (Some k)))
  captured_is g k q = ⊎_elim
      (λ o. inl ((let i : g ≡ f = omega (arith, o.0) in i), some_is k next o.1))
      (λ o. inr ((λ i. o.0 (ap suc i)), o.1))
      (entry_change C (suc f) (suc g) (Some next) (Some k) q)

  others-stay : (g : ℕ) → g ≢ f → slice_get D g ≡ slice_get C g
  others-stay g d = entry-else C (suc f) (suc g) (Some next) (λ q. d (let i : g ≡ f = omega (arith, q) in i))

  pub numbers-captured : next < 18446744073709551615 → NumbersStand (N ++ fresh next f ∷ []) D (next + 1)
  numbers-captured more = record {
    once = once_push N (fresh next f) law.once (next-new N C next next law (omega arith));
    below = λ i x e. ⊎_elim (λ q. (let b = law.below i x q in omega arith)) (λ q. omega (arith, ap (λ (z : RegisteredFile). z.number) q.1)) (entry_push N (fresh next f) i x e);
    pending = λ i x e p. ⊎_elim
        (λ q. let t = law.pending i x q p in (t.0, t.1, others-stay t.0 (λ o. none_some x.number (some_is None (Some x.number) (sym idle ∙ ap (slice_get C) (sym o) ∙ t.2))) ∙ t.2))
        (λ q. (f, ap (λ (z : RegisteredFile). z.family) q.1, entry-same C (suc f) None (Some next) idle ∙ ap (λ (z : RegisteredFile). Some (Some z.number)) (sym q.1)))
        (entry_push N (fresh next f) i x e);
    held = λ g k e. ⊎_elim
        (λ q. (length N + 1, fresh next f, entry-new N (fresh next f) (length N + 1) refl, record { number_is = sym q.1; status_is = refl; family_is = ap Some (sym q.0) }))
        (λ q. let w = law.held g k q.1 in (w.0, w.1, entry-old N (fresh next f ∷ []) w.0 w.1 w.2, w.3))
        (captured_is g k e);
    drawn = λ i x e p. ⊎_elim (λ q. law.drawn i x q p) (λ q. omega (arith, law.least, ap (λ (z : RegisteredFile). z.number) q.1)) (entry_push N (fresh next f) i x e);
    grabbed = λ i x e p g k c. ⊎_elim
        (λ q. ⊎_elim (λ o. (let b = law.below i x q in omega (arith, o.1))) (λ o. law.grabbed i x q p g k o.1) (captured_is g k c))
        (λ q. absurd (pending_grabbed (ap (λ (z : RegisteredFile). z.status) (sym q.1) ∙ p)))
        (entry_push N (fresh next f) i x e);
    least = omega arith;
    most = omega arith;
  }
    where
      pending_grabbed : Pending ≡ Grabbed → ⊥
      pending_grabbed e = cc

-- ---- no number yet
pub numbers-none : (next : ℕ) → 1 ≤ next → next ≤ 18446744073709551615 → NumbersStand [] (replicate 16 None) next
numbers-none next least most = record {
  once = λ n. omega arith;
  below = λ i x e. none-entry i x e;
  pending = λ i x e. none-entry i x e;
  held = λ f n e. idle 16 f n e;
  drawn = λ i x e. none-entry i x e;
  grabbed = λ i x e. none-entry i x e;
  least = least;
  most = most;
}
  where
    none-entry : {P : Type 0} (i : ℕ) (x : RegisteredFile) → entry [] i ≡ Some x → P
    none-entry zero x e = absurd (cc)
    none-entry (suc i) x e = absurd (cc)

    idle : {P : Type 0} (k f n : ℕ) → slice_get (replicate k None) f ≡ Some (Some n) → P
    idle zero f n e = absurd (cc)
    idle (suc k) zero n e = absurd (let both : None ≡ Some n = some_is None (Some n) e in cc)
    idle (suc k) (suc f) n e = idle k f n e

-- a registered number is below the next one
pub registered-below : (N : List RegisteredFile) (C : List (Option ℕ)) (next n : ℕ) (status : FileStatus) → NumbersStand N C next → IsRegistered N n status → n < next
registered-below N C next n status law r = let b = law.below r.0 r.1 r.2 in omega (arith, r.3.number_is)
