-- Which of several refusals it is that is due, and what the books are where it is.
use Rattle.std.proofs.Common.{◌≡◌, ◌==◌, ◌||◌, ◌⊎◌, inl, inr, ⊎_elim, ℕ, Bool, true, false, not, List, [], ◌∷◌, length, Option, Some, None, refl, cond, arith, if◌then◌else◌}
use Rattle.std.specs.Prelude.{count_by, is_some, nat_le}
use Rattle.std.proofs.lemmas.Bool.Decides.{nat_tests}
use Rattle.std.proofs.lemmas.List.Sums.{sum_by-cons}
use Rattle.sv_model.specs.declared.records.RegisteredFile.{RegisteredFile}
use Rattle.sv_model.specs.declared.refusals.Refusal.{Refusal}
use Rattle.sv_model.specs.declared.refusals.Refusal.TheVariants as refusal
use Rattle.sv_model.specs.declared.limits.TheConstants.{MAX_CAPTURED, MAX_CELLS, MAX_PLACES, MAX_SUPERS}
use Rattle.sv_model.specs.Books.{Books}
use Rattle.sv_model.specs.Moments.{WereAllMade, WereAllNumbered, WereManyLive, WereManyMemtables}
use Rattle.sv_model.specs.Named.{memtable_live, super_live}
use Rattle.sv_model.specs.Numbers.{captures}
use Rattle.sv_model.specs.Places.{live_count}
use Rattle.sv_model.specs.Refusals.{IsDue, first_due}
use Rattle.sv_cells.specs.Calls.{memtables_refusal}
use Rattle.sv_files.specs.Calls.{capture_refusal}
use Rattle.sv_registry.specs.Calls.{full_refusal, make_refusal}
use Rattle.sv_replies.proofs.MomentLemmas.{many_live, many_memtables}

-- want of memory stands in place of any
pub due-or : (d : Option Refusal) (e : Refusal) → IsDue d e → (e ≡ refusal.OutOfMemory) ⊎ (d ≡ Some e)
due-or d refusal.OutOfMemory h = inl refl
due-or d e h = inr h

pub first-then : (d : Option Refusal) (ds : List (Option Refusal)) (e : Refusal) → first_due (d ∷ ds) ≡ Some e
    → (d ≡ Some e) ⊎ ((d ≡ None) × (first_due ds ≡ Some e))
first-then None ds e h = inr (refl, h)
first-then (Some x) ds e h = inl h

pub first-or : (d : Option Refusal) (ds : List (Option Refusal)) (e : Refusal) → first_due (d ∷ ds) ≡ Some e
    → (d ≡ Some e) ⊎ (first_due ds ≡ Some e)
first-or None ds e h = inr h
first-or (Some x) ds e h = inl h

-- the last of them
pub last-due : (d : Option Refusal) (e : Refusal) → first_due (d ∷ []) ≡ Some e → d ≡ Some e
last-due None e h = let q : None ≡ Some e = h in absurd (cc)
last-due (Some x) e h = h

-- a refusal that is due only where the test is passed
pub test-due : (b : Bool) (d : Option Refusal) (e : Refusal) → cond b d None ≡ Some e → (b ≡ true) × (d ≡ Some e)
test-due true d e h = (refl, h)
test-due false d e h = let q : None ≡ Some e = h in absurd (cc)

pub test-or : (b : Bool) (d g : Option Refusal) (e : Refusal) → cond b d g ≡ Some e
    → ((b ≡ true) × (d ≡ Some e)) ⊎ (g ≡ Some e)
test-or true d g e h = inl (refl, h)
test-or false d g e h = inr h

pub negated : (b : Bool) → not b ≡ true → b ≡ false
negated true h = let q : false ≡ true = h in absurd (cc)
negated false h = refl

-- ---- what the books are then

pub is-many_memtables : (a : Books) (e : Refusal) → memtables_refusal a.memtables ≡ Some e
    → (e ≡ refusal.TooManyMemtables) × WereManyMemtables a
is-many_memtables a e h =
    let t = test-due (nat_le MAX_CELLS (live_count memtable_live a.memtables)) (Some refusal.TooManyMemtables) e h in
    let same : e ≡ refusal.TooManyMemtables = (let q : Some refusal.TooManyMemtables ≡ Some e = t.1 in cc) in
    (same, many_memtables a (let many = t.0 in grind arith))

pub is-many_live : (a : Books) (e : Refusal) → full_refusal a.supers ≡ Some e → (e ≡ refusal.TooManyLive) × WereManyLive a
is-many_live a e h =
    let t = test-due (nat_le MAX_PLACES (live_count super_live a.supers)) (Some refusal.TooManyLive) e h in
    let same : e ≡ refusal.TooManyLive = (let q : Some refusal.TooManyLive ≡ Some e = t.1 in cc) in
    (same, many_live a (let many = t.0 in grind arith))

-- a SuperVersion more is refused
pub is-full : (a : Books) (e : Refusal) → make_refusal a.supers ≡ Some e
    → ((e ≡ refusal.RegisterFull) × WereAllMade a) ⊎ ((e ≡ refusal.TooManyLive) × WereManyLive a)
is-full a e h = ⊎_elim
    (λ t. inl ((let q : Some refusal.RegisterFull ≡ Some e = t.1 in cc), (let many = t.0 in grind arith)))
    (λ g. inr (is-many_live a e g))
    (test-or (nat_le MAX_SUPERS (length a.supers)) (Some refusal.RegisterFull) (full_refusal a.supers) e h)

-- ---- a number more is refused

captured-one : (b : Bool) → ◌≡◌ {A = ℕ} (if b then 1 else 0) (cond b 1 0)
captured-one true = refl
captured-one false = refl

captures-count : (l : List RegisteredFile) → captures l ≡ count_by (λ f. is_some f.family) l
captures-count [] = refl
captures-count (x ∷ l) =
    omega (arith, captures-count l, captured-one (is_some x.family), sum_by-cons (λ (f : RegisteredFile). cond (is_some f.family) 1 0) x l)

either : (p q : Bool) → (p || q) ≡ true → (p ≡ true) ⊎ (q ≡ true)
either true q h = inl refl
either false q h = inr h

pub is-all_numbered : (a : Books) (e : Refusal) → capture_refusal a.files ≡ Some e → (e ≡ refusal.RegisterFull) × WereAllNumbered a
is-all_numbered a e h =
    let t = test-due (nat_le MAX_CAPTURED (captures a.files.numbers) || (a.files.next == 18446744073709551615)) (Some refusal.RegisterFull) e h in
    let same : e ≡ refusal.RegisterFull = (let q : Some refusal.RegisterFull ≡ Some e = t.1 in cc) in (
      same,
      inr (⊎_elim
          (λ many. inl (let n = captures-count a.files.numbers in grind (arith, many, n)))
          (λ last. inr (grind (arith, nat_tests, last)))
          (either (nat_le MAX_CAPTURED (captures a.files.numbers)) (a.files.next == 18446744073709551615) t.0)),
    )
