-- What captured numbers cover: each number is registered once, and each captured one has its own meta.
use Rattle.std.proofs.Common.{◌≡◌, ◌<◌, ◌≤◌, ℕ, zero, suc, ◌+◌, Bool, true, false, cond, List, [], ◌∷◌, ◌++◌, length, Some, refl, sym, ap, ◌∙◌, arith, Option, filter, subst}
use Rattle.std.specs.Prelude.{slice_get, is_some, map}
use Rattle.sv_model.specs.declared.records.RegisteredFile.{RegisteredFile}
use Rattle.sv_model.specs.declared.records.FileMeta.{FileMeta}
use Rattle.sv_model.specs.Lists.{In, Distinct, same, times}
use Rattle.sv_model.specs.Registers.{entry, change, Has, GoesOn}
use Rattle.sv_model.specs.After.{KeepsNumber}
use Rattle.sv_model.specs.Reads.{IsCapturedFor}
use Rattle.sv_model.specs.Named.{numbers_of}
use Rattle.sv_model.specs.Numbers.{NumbersStand, registered, captured_numbers}
use Rattle.sv_model.proofs.Lists.{at_total, same_is, times_in}
use Rattle.sv_model.proofs.Registers.{goes-change, length-change, goes-rest}
use Rattle.sv_model.proofs.Freed.{distinct_times}
use Rattle.sv_model.proofs.Entries.{some, in-suc}

-- what is captured for a family stays so
pub captured-goes : (N K : List RegisteredFile) → GoesOn KeepsNumber N K → (f n : ℕ) → Has (IsCapturedFor f n) N
    → Has (IsCapturedFor f n) K
captured-goes N K g f n h = let t = g h.0 h.1 h.2 in (
  h.0,
  t.0,
  t.1,
  record {
    number_is = t.2.number ∙ h.3.number_is;
    family_is = t.2.family ∙ h.3.family_is;
  },
)

-- ---- the numbers that were captured, in the order of their captures

captured-cons : (x : RegisteredFile) (l : List RegisteredFile)
    → captured_numbers (x ∷ l) ≡ cond (is_some x.family) (x.number ∷ captured_numbers l) (captured_numbers l)
captured-cons x l = by (is_some x.family)
  where
    by : (b : Bool)
        → map (λ (z : RegisteredFile). z.number) (cond b (x ∷ filter (λ z. is_some z.family) l) (filter (λ z. is_some z.family) l)) ≡ cond b (x.number ∷ captured_numbers l) (captured_numbers l)
    by true = refl
    by false = refl

-- they stay while each record keeps its number and its family
pub captured_numbers-goes : (R : RegisteredFile → RegisteredFile → Type 0)
    → ((x y : RegisteredFile) → R x y → (y.number ≡ x.number) × (y.family ≡ x.family))
    → (N K : List RegisteredFile) → length K ≡ length N → GoesOn R N K → captured_numbers K ≡ captured_numbers N
captured_numbers-goes R keeps [] [] q g = refl
captured_numbers-goes R keeps [] (y ∷ K) q g = absurd (omega arith)
captured_numbers-goes R keeps (x ∷ N) [] q g = absurd (omega arith)
captured_numbers-goes R keeps (x ∷ N) (y ∷ K) q g =
    let t = g 1 x refl in
    let u = keeps x t.0 t.2 in
    let y_is : y ≡ t.0 = some t.1 in
    let number : y.number ≡ x.number = ap (λ (z : RegisteredFile). z.number) y_is ∙ u.0 in
    let family = ap (λ (z : RegisteredFile). is_some z.family) y_is ∙ ap is_some u.1 in
    let rest : captured_numbers K ≡ captured_numbers N =
    captured_numbers-goes R keeps N K (omega arith) (goes-rest R x y N K g) in
    captured-cons y K ∙ (λ i. cond (family i) (number i ∷ rest i) (rest i)) ∙ sym (captured-cons x N)

pub captured_numbers-change : (l : List RegisteredFile) (n : ℕ) (x y : RegisteredFile) → entry l n ≡ Some x
    → y.number ≡ x.number → y.family ≡ x.family → captured_numbers (change l n y) ≡ captured_numbers l
captured_numbers-change l n x y at number family =
    captured_numbers-goes (λ u v. (v.number ≡ u.number) × (v.family ≡ u.family)) (λ u v r. r) l (change l n y)
    (length-change l n y)
    (goes-change (λ u v. (v.number ≡ u.number) × (v.family ≡ u.family)) l n x y (λ z. (refl, refl)) at (number, family))

pub captured_numbers-push : (l : List RegisteredFile) (x : RegisteredFile)
    → captured_numbers (l ++ x ∷ []) ≡ captured_numbers l ++ cond (is_some x.family) (x.number ∷ []) []
captured_numbers-push [] x = captured-cons x []
captured_numbers-push (y ∷ l) x =
    captured-cons y (l ++ x ∷ []) ∙ by (is_some y.family) (captured_numbers-push l x)
    ∙ ap (λ k. k ++ cond (is_some x.family) (x.number ∷ []) []) (sym (captured-cons y l))
  where
    by : (b : Bool) → captured_numbers (l ++ x ∷ []) ≡ captured_numbers l ++ cond (is_some x.family) (x.number ∷ []) []
        → cond b (y.number ∷ captured_numbers (l ++ x ∷ [])) (captured_numbers (l ++ x ∷ [])) ≡ cond b (y.number ∷ captured_numbers l) (captured_numbers l) ++ cond (is_some x.family) (x.number ∷ []) []
    by true h = ap (λ k. y.number ∷ k) h
    by false h = h

pub numbers_of-push : (l : List FileMeta) (m : FileMeta) → numbers_of (l ++ m ∷ []) ≡ numbers_of l ++ m.number ∷ []
numbers_of-push [] m = refl
numbers_of-push (x ∷ l) m = ap (λ k. x.number ∷ k) (numbers_of-push l m)

-- no number more often than it is registered
captured-le : (n : ℕ) (l : List RegisteredFile) → times n (captured_numbers l) ≤ registered n l
captured-le n [] = omega arith
captured-le n (x ∷ l) = omega (arith, by (is_some x.family), captured-le n l, ap (times n) (captured-cons x l))
  where
    by : (b : Bool)
        → times n (cond b (x.number ∷ captured_numbers l) (captured_numbers l)) ≤ same n x.number + times n (captured_numbers l)
    by true = omega arith
    by false = omega arith

captured-in : (l : List RegisteredFile) (i : ℕ) (x : RegisteredFile) → slice_get l i ≡ Some x
    → is_some x.family ≡ true → In x.number (captured_numbers l)
captured-in [] i x e p = absurd (cc)
captured-in (y ∷ l) zero x e p =
    let q : y ≡ x = some e in
    record {
      at = 0;
      is = ap (λ k. slice_get k 0)
          (captured-cons y l ∙ ap (λ b. cond b (y.number ∷ captured_numbers l) (captured_numbers l)) (ap (λ (z : RegisteredFile). is_some z.family) q ∙ p))
          ∙ ap (λ (z : RegisteredFile). Some z.number) q;
    }
captured-in (y ∷ l) (suc i) x e p =
    subst (In x.number) (sym (captured-cons y l)) (by (is_some y.family) (captured-in l i x e p))
  where
    by : (b : Bool) → In x.number (captured_numbers l)
        → In x.number (cond b (y.number ∷ captured_numbers l) (captured_numbers l))
    by true h = in-suc x.number y.number (captured_numbers l) h
    by false h = h

number-at : (l : List FileMeta) (i : ℕ) (m : FileMeta) → slice_get l i ≡ Some m
    → slice_get (numbers_of l) i ≡ Some m.number
number-at [] i m e = absurd (cc)
number-at (x ∷ l) zero m e = ap (λ (z : FileMeta). Some z.number) (some e)
number-at (x ∷ l) (suc i) m e = number-at l i m e

meta-at : (l : List FileMeta) (i n : ℕ) → slice_get (numbers_of l) i ≡ Some n
    → (m : FileMeta) × (slice_get l i ≡ Some m) × (m.number ≡ n)
meta-at [] i n e = absurd (cc)
meta-at (x ∷ l) zero n e = (x, refl, some e)
meta-at (x ∷ l) (suc i) n e = meta-at l i n e

module _ (numbers : List RegisteredFile) (captured : List (Option ℕ)) (next : ℕ) (metas : List FileMeta) (law : NumbersStand numbers captured next) (are : numbers_of metas ≡ captured_numbers numbers) where
  once : Distinct (captured_numbers numbers)
  once = distinct_times (captured_numbers numbers) (λ n. omega (arith, captured-le n numbers, law.once n))

  at : (m : FileMeta) (i : In m metas) → slice_get (captured_numbers numbers) i.at ≡ Some m.number
  at m i = ap (λ k. slice_get k i.at) (sym are) ∙ number-at metas i.at m i.is

  -- a number has one meta
  pub one-meta : (m k : FileMeta) → In m metas → In k metas → m.number ≡ k.number → m ≡ k
  one-meta m k i j e =
      some (sym i.is ∙ ap (slice_get metas) (once i.at j.at m.number (at m i) (at k j ∙ ap Some (sym e))) ∙ j.is)

  -- whose number was drawn
  pub drawn : (m : FileMeta) → In m metas → m.number < next
  drawn m i =
      let more = times_in m.number (captured_numbers numbers) (record { at = i.at; is = at m i }) in
      let t =
      at_total (λ (x : RegisteredFile). same m.number x.number) numbers
      (omega (arith, more, captured-le m.number numbers)) in
      omega (arith, law.below (suc t.0) t.1 t.2, same_is m.number t.1.number t.3)

  -- a captured number has one
  pub covered : (i : ℕ) (x : RegisteredFile) → entry numbers i ≡ Some x → is_some x.family ≡ true
      → (m : FileMeta) × In m metas × (m.number ≡ x.number)
  covered zero x e p = absurd (cc)
  covered (suc i) x e p =
      let t = captured-in numbers i x e p in
      let u = meta-at metas t.at x.number (ap (λ k. slice_get k t.at) are ∙ t.is) in
      (u.0, record { at = t.at; is = u.1 }, u.2)
