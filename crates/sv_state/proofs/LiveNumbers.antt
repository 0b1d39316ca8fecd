-- The file numbers that a lane may copy, gathered in a set.
use Rattle.std.proofs.Common.{◌≡◌, ◌<◌, ◌≤◌, ◌+◌, ◌∷◌, ◌⊎◌, inl, inr, ⊎_elim, ℕ, zero, suc, true, false, List, [], length, drop, Option, Some, None, refl, sym, ap, ◌∙◌, subst, arith}
use Rattle.std.specs.Prelude.{◌↔◌, ◌==◌, option_map, slice_get}
use Rattle.std.specs.declared.cmp.Ordering.{Ordering}
use Rattle.std.specs.declared.cmp.Ordering.TheVariants.{Less, Equal, Greater}
use Rattle.std.specs.BTreeSet.{insert_key}
use Rattle.std.specs.Ordering.{is_eq, nat_cmp, match_ordering}
use Rattle.std.specs.Cmp.{unsigned_ties}
use Rattle.sv_model.specs.declared.records.Family.{Family}
use Rattle.sv_model.specs.declared.records.FileMeta.{FileMeta}
use Rattle.sv_model.specs.declared.records.Top.{Top}
use Rattle.sv_model.specs.Books.{Books, files_of}
use Rattle.sv_model.specs.Lists.{In}
use Rattle.sv_model.specs.Named.{numbers_of}
use Rattle.sv_model.specs.Steady.{Sound}
use Rattle.sv_laws.proofs.GrownRegisters.{get_within}
use Rattle.sv_model.proofs.Registers.{get-some}
use Rattle.sv_model.proofs.Entries.{get_none, in-cons, in-suc, some}
use Rattle.sv_state.specs.Currents.{IsShownFile, StandsAt}

-- ---- a number more

one-in : (n x : ℕ) (l : List ℕ) → n ≡ x → In n (x ∷ l)
one-in n x l e = record { at = 0; is = ap Some (sym e) }

equal-is : (x y : ℕ) → nat_cmp x y ≡ Equal → x ≡ y
equal-is x y q = same x y (unsigned_ties x y ∙ ap is_eq q)
  where
    same : (x y : ℕ) → (x == y) ≡ true → x ≡ y
    same x y h = grind arith

key-in : (n x : ℕ) (l : List ℕ) → In n (insert_key nat_cmp l x) ↔ (In n l ⊎ (n ≡ x))
key-in n x [] = (λ h. ⊎_elim (λ e. inr e) (λ i. inl i) (in-cons n x [] h), ⊎_elim (λ i. in-suc n x [] i) (λ e. one-in n x [] e))
key-in n x (y ∷ l) = by (nat_cmp x y) refl (key-in n x l)
  where
    by : (r : Ordering) → nat_cmp x y ≡ r → In n (insert_key nat_cmp l x) ↔ (In n l ⊎ (n ≡ x))
        → In n (match_ordering r (x ∷ y ∷ l) (y ∷ l) (y ∷ insert_key nat_cmp l x)) ↔ (In n (y ∷ l) ⊎ (n ≡ x))
    by Less q h = (λ i. ⊎_elim (λ e. inr e) (λ j. inl j) (in-cons n x (y ∷ l) i), ⊎_elim (λ i. in-suc n x (y ∷ l) i) (λ e. one-in n x (y ∷ l) e))
    by Equal q h = (λ i. inl i, ⊎_elim (λ i. i) (λ e. one-in n y l (e ∙ equal-is x y q)))
    by Greater q h =
        let more : List ℕ = insert_key nat_cmp l x in (
          λ i. ⊎_elim
              (λ e. inl (one-in n y l e))
              (λ j. ⊎_elim (λ u. inl (in-suc n y l u)) (λ e. inr e) (h.0 j))
              (in-cons n y more i),
          ⊎_elim
              (λ i. ⊎_elim (λ e. one-in n y more e) (λ j. in-suc n y more (h.1 (inl j))) (in-cons n y l i))
              (λ e. in-suc n y more (h.1 (inr e))),
        )

-- the files from this place on
from-here : (n : ℕ) (files : List FileMeta) (i : ℕ) (file : FileMeta) → slice_get files i ≡ Some file
    → In n (numbers_of (drop i files)) ↔ ((n ≡ file.number) ⊎ In n (numbers_of (drop (suc i) files)))
from-here n [] i file e = absurd (get_none i file e)
from-here n (y ∷ files) zero file e =
    let same : y.number ≡ file.number = ap (λ (z : FileMeta). z.number) (some e) in (
      λ h. ⊎_elim (λ q. inl (q ∙ same)) (λ j. inr j) (in-cons n y.number (numbers_of files) h),
      ⊎_elim (λ q. one-in n y.number (numbers_of files) (q ∙ sym same)) (λ j. in-suc n y.number (numbers_of files) j),
    )
from-here n (y ∷ files) (suc i) file e = from-here n files i file e

pub gather-more : (P : ℕ → Type 0) (K L : List ℕ) (files : List FileMeta) (file : FileMeta) (i : ℕ) → slice_get files i ≡ Some file → L ≡ insert_key nat_cmp K file.number
    → ((n : ℕ) → (In n K ⊎ In n (numbers_of (drop i files))) ↔ P n)
    → (n : ℕ) → (In n L ⊎ In n (numbers_of (drop (i + 1) files))) ↔ P n
gather-more P K L files file i e is h n =
    let at = from-here n files i file e in
    let next : suc i ≡ i + 1 = omega arith in
    let key = subst (λ l. In n l ↔ (In n K ⊎ (n ≡ file.number))) (sym is) (key-in n file.number K) in
    subst (λ k. (In n L ⊎ In n (numbers_of (drop k files))) ↔ P n) next (
      ⊎_elim
          (λ j. ⊎_elim (λ u. (h n).0 (inl u)) (λ q. (h n).0 (inr (at.1 (inl q)))) (key.0 j))
          (λ j. (h n).0 (inr (at.1 (inr j)))),
      λ p. ⊎_elim
          (λ u. inl (key.1 (inl u)))
          (λ u. ⊎_elim (λ q. inl (key.1 (inr q))) (λ j. inr j) (at.0 u))
          ((h n).1 p),
    )

pub gather-end : (P : ℕ → Type 0) (K : List ℕ) (files : List FileMeta) (i : ℕ) → length files ≤ i
    → ((n : ℕ) → (In n K ⊎ In n (numbers_of (drop i files))) ↔ P n) → (n : ℕ) → In n K ↔ P n
gather-end P K files i le h n = (λ u. (h n).0 (inl u), λ p. ⊎_elim (λ u. u) (λ j. absurd (none files i le j)) ((h n).1 p))
  where
    none : (l : List FileMeta) (k : ℕ) → length l ≤ k → In n (numbers_of (drop k l)) → ⊥
    none [] zero q j = get_none j.at n j.is
    none [] (suc k) q j = get_none j.at n j.is
    none (y ∷ l) zero q j = omega (arith, q)
    none (y ∷ l) (suc k) q j = none l k (omega (arith, q)) j

-- ---- family by family

pub stands-at : (b : Books) → Sound b → (f : ℕ) → option_map (λ (x : Family). x.dropped) (slice_get b.families f) ≡ Some false → StandsAt b f
stands-at b k f e = by (slice_get b.families f) refl e
  where
    by : (o : Option Family) → slice_get b.families f ≡ o → option_map (λ (x : Family). x.dropped) o ≡ Some false → StandsAt b f
    by (Some x) q h =
        let t = get-some b.tops f (omega (arith, get_within b.families f x q, k.lawful.paired)) in
        record { it = x; at = q; stands = some h; top = t.0; on = t.1 }
    by None q h = absurd (cc)

-- so it is of a family of a lower id
pub record IsShownBelow (b : Books) (k n : ℕ) : Type 0 where
  pub file : IsShownFile b n
  pub below : file.family < k

split : (i k : ℕ) → i < k + 1 → (i < k) ⊎ (i ≡ k)
split i k lt = grind arith

later : (b : Books) (k n : ℕ) → IsShownBelow b k n → IsShownBelow b (k + 1) n
later b k n h = record { file = h.file; below = omega (arith, h.below) }

-- a family that is dropped has none
pub shown-skip : (b : Books) (k : ℕ) (K : List ℕ) → option_map (λ (f : Family). f.dropped) (slice_get b.families k) ≡ Some true
    → ((n : ℕ) → In n K ↔ IsShownBelow b k n) → (n : ℕ) → In n K ↔ IsShownBelow b (k + 1) n
shown-skip b k K dropped h n = (
  λ i. later b k n ((h n).0 i),
  λ s. ⊎_elim
      (λ lt. (h n).1 (record { file = s.file; below = lt }))
      (λ e.
      let at : slice_get b.families k ≡ Some s.file.stands.it = ap (slice_get b.families) (sym e) ∙ s.file.stands.at in
      let r : s.file.stands.it.dropped ≡ true = some (sym (ap (option_map (λ (f : Family). f.dropped)) at) ∙ dropped) in
      absurd (let z : false ≡ true = sym s.file.stands.stands ∙ r in cc))
      (split s.file.family k s.below),
)

pub shown-more : (b : Books) (k : ℕ) (K L : List ℕ) (files : List FileMeta) (st : StandsAt b k) → files ≡ files_of b.versions st.top.last
    → ((n : ℕ) → In n K ↔ IsShownBelow b k n) → ((n : ℕ) → In n L ↔ (In n K ⊎ In n (numbers_of files)))
    → (n : ℕ) → In n L ↔ IsShownBelow b (k + 1) n
shown-more b k K L files st is h more n = (
  λ i. ⊎_elim
      (λ u. later b k n ((h n).0 u))
      (λ u. record { file = record { family = k; stands = st; has = subst (λ l. In n (numbers_of l)) is u }; below = omega arith })
      ((more n).0 i),
  λ s. ⊎_elim
      (λ lt. (more n).1 (inl ((h n).1 (record { file = s.file; below = lt }))))
      (λ e.
      let same : s.file.stands.top ≡ st.top = some (sym s.file.stands.on ∙ ap (slice_get b.tops) e ∙ st.on) in
      (more n).1 (inr (subst (λ l. In n (numbers_of l)) (ap (λ (t : Top). files_of b.versions t.last) same ∙ sym is) s.file.has)))
      (split s.file.family k s.below),
)

pub shown-end : (b : Books) (k : ℕ) (K : List ℕ) → length b.families ≤ k → ((n : ℕ) → In n K ↔ IsShownBelow b k n) → (n : ℕ) → In n K ↔ IsShownFile b n
shown-end b k K le h n = (
  λ i. ((h n).0 i).file,
  λ s. (h n).1 (record { file = s; below = omega (arith, le, get_within b.families s.family s.stands.it s.stands.at) }),
)
