-- What a scan finds, and that the laws of numbers stand with the strays registered.
use Rattle.std.proofs.Common.{◌≡◌, ◌<◌, ◌≤◌, ◌↔◌, ℕ, zero, suc, ◌+◌, ◌⊎◌, inl, inr, ⊎_elim, true, cond, min, List, [], ◌∷◌, ◌++◌, map, Option, Some, is_some, slice_get, refl, sym, ap, ◌∙◌, subst, arith}
use Rattle.std.proofs.lemmas.Bool.{false≢true}
use Rattle.sv_model.specs.declared.records.RegisteredFile.{RegisteredFile}
use Rattle.sv_model.specs.declared.records.FileStatus.TheVariants.{Pending, Obsolete, Grabbed}
use Rattle.sv_model.specs.Books.{FileRegister}
use Rattle.sv_model.specs.Lists.{Distinct, In, times}
use Rattle.sv_model.specs.Numbers.{IsReady, IsRegistered, NumbersStand, captures, least_captured, registered}
use Rattle.sv_model.specs.Registers.{entry}
use Rattle.sv_model.proofs.Freed.{chosen-same}
use Rattle.sv_model.proofs.Lists.{total-append, in_times, times_in, same_here, same_other}
use Rattle.sv_model.proofs.Registers.{entry-old}
use Rattle.sv_files.specs.Calls.{IsScanned, IsStray, grab, stray}
use Rattle.sv_files.specs.Kept.{AddsStrays, FindsStrays, obsolete_stray}
use Rattle.sv_files.proofs.Registered.{some_is, with_status}
use Rattle.sv_model.proofs.Basics.{apart_or}
use Rattle.sv_files.proofs.GrabLaws.{in-is, is_in}
use Rattle.sv_files.proofs.StrayLaws.{registered-with}

-- ---- entries of two lists, one after the other
append-entry : {A : Type 0} (l m : List A) (i : ℕ) (x : A) → slice_get (l ++ m) i ≡ Some x → (slice_get l i ≡ Some x) ⊎ ((j : ℕ) × (slice_get m j ≡ Some x))
append-entry [] m i x at = inr (i, at)
append-entry (y ∷ l) m zero x at = inl at
append-entry (y ∷ l) m (suc i) x at = append-entry l m i x at

append-later : {A : Type 0} (l m : List A) (j : ℕ) (x : A) → slice_get m j ≡ Some x → (i : ℕ) × (slice_get (l ++ m) i ≡ Some x)
append-later [] m j x at = (j, at)
append-later (y ∷ l) m j x at = let t = append-later l m j x at in (suc t.0, t.1)

-- an entry after the strays is an old one or a stray
stray-entry : (strays : List ℕ) (j : ℕ) (x : RegisteredFile) → slice_get (map obsolete_stray strays) j ≡ Some x → (n : ℕ) × (slice_get strays j ≡ Some n) × (x ≡ obsolete_stray n)
stray-entry [] j x at = absurd (cc)
stray-entry (n ∷ strays) zero x at = (n, refl, sym (some_is (obsolete_stray n) x at))
stray-entry (n ∷ strays) (suc j) x at = stray-entry strays j x at

entry-stray : (strays : List ℕ) (j n : ℕ) → slice_get strays j ≡ Some n → slice_get (map obsolete_stray strays) j ≡ Some (obsolete_stray n)
entry-stray [] j n at = absurd (cc)
entry-stray (m ∷ strays) zero n at = ap (λ (k : ℕ). Some (obsolete_stray k)) (some_is m n at)
entry-stray (m ∷ strays) (suc j) n at = entry-stray strays j n at

with-entry : (l : List RegisteredFile) (strays : List ℕ) (i : ℕ) (x : RegisteredFile) → entry (l ++ map obsolete_stray strays) i ≡ Some x → (entry l i ≡ Some x) ⊎ ((n : ℕ) × In n strays × (x ≡ obsolete_stray n))
with-entry l strays zero x at = absurd (cc)
with-entry l strays (suc i) x at = ⊎_elim
    (λ old. inl old)
    (λ new. (let s = stray-entry strays new.0 x new.1 in inr (s.0, record { at = new.0; is = s.1 }, s.2)))
    (append-entry l (map obsolete_stray strays) i x at)

-- what is Obsolete with the strays was Obsolete or is a stray
pub with-obsolete : (l : List RegisteredFile) (strays : List ℕ) (n : ℕ) → IsRegistered (l ++ map obsolete_stray strays) n Obsolete ↔ (IsRegistered l n Obsolete ⊎ In n strays)
with-obsolete l strays n = (
  λ r. ⊎_elim
      (λ old. inl (r.0, r.1, old, r.3))
      (λ new. inr (subst (λ k. In k strays) (sym (ap (λ (z : RegisteredFile). z.number) new.2) ∙ r.3.number_is) new.1))
      (with-entry l strays r.0 r.1 r.2),
  λ o. ⊎_elim
      (λ old. (old.0, old.1, entry-old l (map obsolete_stray strays) old.0 old.1 old.2, old.3))
      (λ there. (let e = append-later l (map obsolete_stray strays) there.at (obsolete_stray n) (entry-stray strays there.at n there.is) in (suc e.0, obsolete_stray n, e.1, record { number_is = refl; status_is = refl })))
      o,
)

-- ---- each stray is registered once
pub times-le : (xs : List ℕ) (n : ℕ) → Distinct xs → times n xs ≤ 1
times-le [] n once = omega arith
times-le (x ∷ xs) n once = elim (apart_or n x) [
  | inl here ↦
      let cases : (times n xs ≡ 0) ⊎ (0 < times n xs) = grind arith in
      let one = Rattle.sv_model.proofs.Lists.same-le n x in
      ⊎_elim (λ none. omega arith) (λ some. (let there = in_times n xs some in let e = once 0 (suc there.at) n (ap Some (sym here)) there.is in absurd (omega (arith, e)))) cases
  | inr apart ↦ omega (arith, same_other n x apart, times-le xs n (λ i j y a b. (let e = once (suc i) (suc j) y a b in omega (arith, e))))
]

pub captures-strays : (l : List RegisteredFile) (strays : List ℕ) → captures (l ++ map obsolete_stray strays) ≡ captures l
captures-strays l strays = total-append (λ x. cond (is_some x.family) 1 0) l (map obsolete_stray strays) ∙ (let z = none strays in omega arith)
  where
    none : (strays : List ℕ) → captures (map obsolete_stray strays) ≡ 0
    none [] = refl
    none (n ∷ strays) = omega (arith, none strays)

module _ (l new : List RegisteredFile) (C : List (Option ℕ)) (next limit : ℕ) (listed : List ℕ) (law : NumbersStand l C next) (h : AddsStrays l new listed limit) (within : limit ≤ next) where
  obsolete_pending : {A : Type 0} → Obsolete ≡ Pending → A
  obsolete_pending e = absurd (cc)

  obsolete_grabbed : {A : Type 0} → Obsolete ≡ Grabbed → A
  obsolete_grabbed e = absurd (cc)

  old-or : (i : ℕ) (x : RegisteredFile) → entry new i ≡ Some x → (entry l i ≡ Some x) ⊎ ((n : ℕ) × In n h.strays × (x ≡ obsolete_stray n))
  old-or i x at = with-entry l h.strays i x (subst (λ k. entry k i ≡ Some x) h.is at)

  pub numbers-strays : NumbersStand new C next
  numbers-strays = record {
    once = λ n. (
        let e = ap (registered n) h.is ∙ registered-with n l h.strays in
        let le = times-le h.strays n h.chosen.once in
        let cases : (times n h.strays ≡ 0) ⊎ (0 < times n h.strays) = grind arith in
        ⊎_elim (λ none. (let o = law.once n in omega arith)) (λ some. (let p = ((h.chosen.exact n).0 (in_times n h.strays some)).1 in omega (arith, p.0))) cases);
    below = λ i x at. ⊎_elim (λ old. law.below i x old) (λ s. (let p = ((h.chosen.exact s.0).0 s.1).1 in omega (arith, p.1, ap (λ (z : RegisteredFile). z.number) s.2))) (old-or i x at);
    pending = λ i x at p. ⊎_elim (λ old. law.pending i x old p) (λ s. obsolete_pending (ap (λ (z : RegisteredFile). z.status) (sym s.2) ∙ p)) (old-or i x at);
    held = λ f n e. let w = law.held f n e in (w.0, w.1, subst (λ k. entry k w.0 ≡ Some w.1) (sym h.is) (entry-old l (map obsolete_stray h.strays) w.0 w.1 w.2), w.3);
    drawn = λ i x at p. ⊎_elim (λ old. law.drawn i x old p) (λ s. absurd (false≢true (ap (λ (z : RegisteredFile). is_some z.family) (sym s.2) ∙ p))) (old-or i x at);
    grabbed = λ i x at p f n e. ⊎_elim (λ old. law.grabbed i x old p f n e) (λ s. obsolete_grabbed (ap (λ (z : RegisteredFile). z.status) (sym s.2) ∙ p)) (old-or i x at);
    least = law.least;
    most = law.most;
  }

-- ---- what was found
map-append : (f : RegisteredFile → RegisteredFile) (l m : List RegisteredFile) → map f (l ++ m) ≡ map f l ++ map f m
map-append f [] m = refl
map-append f (x ∷ l) m = ap (λ k. f x ∷ k) (map-append f l m)

grab-strays : (found strays : List ℕ) → ((n : ℕ) → In n strays → In n found) → map (grab found) (map obsolete_stray strays) ≡ map stray strays
grab-strays found [] each = refl
grab-strays found (n ∷ strays) each =
    let here : is_in n found ≡ true = in-is n found (each n (record { at = 0; is = refl })) in
    let head : grab found (obsolete_stray n) ≡ stray n = ap (λ b. with_status (obsolete_stray n) (cond b Grabbed Obsolete)) here in
    let tail = grab-strays found strays (λ k there. each k (record { at = suc there.at; is = there.is })) in cc

min-below : (n bound next : ℕ) → n < min bound next → (n < bound) × (n < next)
min-below n bound next low = (omega arith, omega arith)

below-min : (n bound next : ℕ) → n < bound → n < next → n < min bound next
below-min n bound next low below = omega arith

pub scanned : (r : FileRegister) (new : List RegisteredFile) (listed found : List ℕ) (bound : ℕ) → bound ≡ least_captured r.captured → FindsStrays r.numbers new listed bound r.next found → IsScanned r (record r { numbers = map (grab found) new; jobs = r.jobs + 1 }) listed found
scanned r new listed found bound bound_is h =
    let strays = h.added.strays in
    let low : (n : ℕ) → In n strays → n < bound = λ n there. (min-below n bound r.next ((h.added.chosen.exact n).0 there).1.1).0 in
    let exact : (n : ℕ) → In n found ↔ (IsReady r n ⊎ In n strays) = λ n. (
      λ there. (
          let o = (h.found_are.exact n).0 there in
          ⊎_elim (λ old. inl (record { obsolete = old; below = omega (arith, o.1) })) (λ s. inr s) ((with-obsolete r.numbers strays n).0 (subst (λ l. IsRegistered l n Obsolete) h.added.is o.0))),
      λ o. (h.found_are.exact n).1 (⊎_elim
          (λ ready. (subst (λ l. IsRegistered l n Obsolete) (sym h.added.is) ((with-obsolete r.numbers strays n).1 (inl ready.obsolete)), (let b = ready.below in omega arith)))
          (λ s. (subst (λ l. IsRegistered l n Obsolete) (sym h.added.is) ((with-obsolete r.numbers strays n).1 (inr s)), low n s))
          o),
    ) in
    record {
      strays = strays;
      chosen = chosen-same (λ n. (registered n r.numbers ≡ 0) × (n < min bound r.next)) (IsStray r) listed strays (λ n. (
        λ (none, below). (let m = min-below n bound r.next below in record { new = none; low = omega (arith, m.0); below = m.1 }),
        λ s. (s.new, below-min n bound r.next (let l = s.low in omega arith) s.below),
      )) h.added.chosen;
      found_are = record { exact = exact; rising = h.found_are.rising };
      is = ap (λ (l : List RegisteredFile). record r { numbers = l; jobs = r.jobs + 1 })
          (ap (map (grab found)) h.added.is ∙ map-append (grab found) r.numbers (map obsolete_stray strays) ∙ ap (λ l. map (grab found) r.numbers ++ l) (grab-strays found strays (λ n s. (exact n).1 (inr s))));
    }
