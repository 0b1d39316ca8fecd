-- No number is purged twice, and no snapshot ended twice: how it goes on, reply by reply, where one lane is.
use Rattle.std.proofs.Common.{◌≡◌, ◌<◌, ◌+◌, ◌⊎◌, inl, inr, ⊎_elim, ℕ, zero, suc, List, [], ◌∷◌, ◌++◌, length, get_or, Some, refl, sym, ◌∙◌, ap, subst, arith}
use Rattle.std.specs.Prelude.{slice_get}
use Rattle.std.specs.List.Sorted.{IsStrictlyIncreasing}
use Rattle.std.proofs.lemmas.Grind.{flat_map-append}
use Rattle.std.proofs.lemmas.List.{append-nil}
use Rattle.std.proofs.lemmas.Map.Keys.{below_from_sorted, sorted_from_strictly_increasing}
use Rattle.std.proofs.lemmas.Option.{get_or_from_slice_get, slice_get_within}
use Rattle.sv_model.specs.declared.records.FileStatus.TheVariants.{Gone}
use Rattle.sv_model.specs.declared.records.RegisteredFile.{RegisteredFile}
use Rattle.sv_model.specs.After.{After, KeepsNumber}
use Rattle.sv_model.specs.Books.{Books}
use Rattle.sv_model.specs.Lists.{Distinct, In}
use Rattle.sv_model.specs.Numbers.{HasStatus, IsRegistered}
use Rattle.sv_script.specs.Answered.{Answered}
use Rattle.sv_model.proofs.Entries.{in_append}
use Rattle.sv_replies.specs.LanesFit.{ended, ended_by, ended_of, purged, purged_by, purged_of}
use Rattle.sv_replies.specs.SnapLaw.{IsOver}
use Rattle.sv_replies.specs.Moments.{IsIn}
use Rattle.sv_replies.specs.Told.{AreGone, AreOver}
use Rattle.sv_replies.proofs.KnowsLaws.{over-later}
use Rattle.sv_replies.proofs.AfterLemmas.{has-later}

-- ---- lists without a number twice

-- what stands in two lists, one after the other
get_append : {A : Type 0} (xs ys : List A) (i : ℕ) (x : A) → slice_get (xs ++ ys) i ≡ Some x
    → (slice_get xs i ≡ Some x) ⊎ ((j : ℕ) × (i ≡ length xs + j) × (slice_get ys j ≡ Some x))
get_append [] ys i x e = inr (i, omega arith, e)
get_append (z ∷ xs) ys zero x e = inl e
get_append (z ∷ xs) ys (suc i) x e = ⊎_elim
    (λ old. inl old)
    (λ new. inr (new.0, omega (arith, new.1), new.2))
    (get_append xs ys i x e)

pub distinct-append : {A : Type 0} (xs ys : List A) → Distinct xs → Distinct ys → ((x : A) → In x xs → In x ys → ⊥)
    → Distinct (xs ++ ys)
distinct-append xs ys p q apart i j x a b = ⊎_elim
    (λ u. ⊎_elim
    (λ v. p i j x u v)
    (λ v. absurd (apart x (record { at = i; is = u }) (record { at = v.0; is = v.2 })))
    (get_append xs ys j x b))
    (λ u. ⊎_elim
    (λ v. absurd (apart x (record { at = j; is = v }) (record { at = u.0; is = u.2 })))
    (λ v. u.1 ∙ ap (λ n. length xs + n) (q u.0 v.0 x u.2 v.2) ∙ sym v.1)
    (get_append xs ys j x b))
    (get_append xs ys i x a)

rising_far : (xs : List ℕ) (i j : ℕ) → IsStrictlyIncreasing xs → i < j → j < length xs → get_or xs i 0 < get_or xs j 0
rising_far xs i j h before within = below_from_sorted xs i j 0 (sorted_from_strictly_increasing xs h) before within

pub rising-distinct : (xs : List ℕ) → IsStrictlyIncreasing xs → Distinct xs
rising-distinct xs h i j x a b = elim (order i j) [
  | inl same ↦ same
  | inr (inl lt) ↦ absurd (let far = rising_far xs i j h lt (slice_get_within xs j x b) in omega (arith, far, get_or_from_slice_get xs i x 0 a, get_or_from_slice_get xs j x 0 b))
  | inr (inr gt) ↦ absurd (let far = rising_far xs j i h gt (slice_get_within xs i x a) in omega (arith, far, get_or_from_slice_get xs i x 0 a, get_or_from_slice_get xs j x 0 b))
]
  where
    order : (i j : ℕ) → (i ≡ j) ⊎ ((i < j) ⊎ (j < i))
    order i j = grind arith

pub one-distinct : (x : ℕ) → Distinct (x ∷ [])
one-distinct x zero zero y a b = refl
one-distinct x zero (suc j) y a b = absurd (let e = b in cc)
one-distinct x (suc i) j y a b = absurd (let e = a in cc)

-- ---- purges

pub purged_of-push : (all : List Answered) (x : Answered)
    → purged_of (all ++ x ∷ []) ≡ purged_of all ++ purged_by x.reply
purged_of-push all x =
    flat_map-append (λ (a : Answered). purged_by a.reply) all (x ∷ []) ∙ ap (λ z. purged_of all ++ z) (append-nil (purged_by x.reply))

pub ended_of-push : (all : List Answered) (x : Answered)
    → ended_of (all ++ x ∷ []) ≡ ended_of all ++ ended_by x.command x.reply
ended_of-push all x =
    flat_map-append (λ (a : Answered). ended_by a.command a.reply) all (x ∷ []) ∙ ap (λ z. ended_of all ++ z) (append-nil (ended_by x.command x.reply))

-- where one lane is
pub purged-alone : (all : List Answered) → purged (all ∷ []) ≡ purged_of all
purged-alone all = append-nil (purged_of all)

pub ended-alone : (all : List Answered) → ended (all ∷ []) ≡ ended_of all
ended-alone all = append-nil (ended_of all)

gone_keeps : (n : ℕ) (x y : RegisteredFile) → KeepsNumber x y → HasStatus n Gone x → HasStatus n Gone y
gone_keeps n x y kept h = record { number_is = kept.number ∙ h.number_is; status_is = kept.gone h.status_is }

pub gone-stays : (a b : Books) (n : ℕ) → After a b → IsRegistered a.files.numbers n Gone → IsRegistered b.files.numbers n Gone
gone-stays a b n after h =
    has-later KeepsNumber (HasStatus n Gone) (HasStatus n Gone) (gone_keeps n) a.files.numbers b.files.numbers after.numbers h

pub gone-later : (a b : Books) (numbers : List ℕ) → After a b → AreGone a numbers → AreGone b numbers
gone-later a b numbers after h n has = gone-stays a b n after (h n has)

-- What a purge or scan showed was not Gone before, so none of it was shown before.
pub purged-once : (a b : Books) (all : List Answered) (x : Answered) → After a b → AreGone a (purged_of all)
    → Distinct (purged_of all)
    → IsStrictlyIncreasing (purged_by x.reply)
    → ((n : ℕ) → In n (purged_by x.reply) → IsRegistered a.files.numbers n Gone → ⊥)
    → AreGone b (purged_by x.reply) → Distinct (purged_of (all ++ x ∷ [])) × AreGone b (purged_of (all ++ x ∷ []))
purged-once a b all x after gone once rising new now = (
  subst (λ (l : List ℕ). Distinct l) (sym (purged_of-push all x))
      (distinct-append (purged_of all) (purged_by x.reply) once (rising-distinct (purged_by x.reply) rising) (λ n old is. new n is (gone n old))),
  subst (λ (l : List ℕ). AreGone b l) (sym (purged_of-push all x))
      (λ n has. ⊎_elim (λ old. gone-later a b (purged_of all) after gone n old) (λ is. now n is) (in_append n (purged_of all) (purged_by x.reply) has)),
)

-- ---- ended snapshots

pub ended-once : (a b : Books) (all : List Answered) (x : Answered) → After a b → AreOver a (ended_of all)
    → Distinct (ended_of all)
    → Distinct (ended_by x.command x.reply)
    → ((n : ℕ) → In n (ended_by x.command x.reply) → IsIn IsOver a.snapshots n → ⊥)
    → AreOver b (ended_by x.command x.reply)
    → Distinct (ended_of (all ++ x ∷ [])) × AreOver b (ended_of (all ++ x ∷ []))
ended-once a b all x after over once here new now = (
  subst (λ (l : List ℕ). Distinct l) (sym (ended_of-push all x))
      (distinct-append (ended_of all) (ended_by x.command x.reply) once here (λ n old is. new n is (over n old))),
  subst (λ (l : List ℕ). AreOver b l) (sym (ended_of-push all x))
      (λ n has. ⊎_elim (λ old. over-later a b n after (over n old)) (λ is. now n is) (in_append n (ended_of all) (ended_by x.command x.reply) has)),
)
