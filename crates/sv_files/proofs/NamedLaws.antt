-- Named numbers, each Live.
use Rattle.std.proofs.Common.{◌≡◌, ◌<◌, ◌≤◌, ℕ, zero, suc, ◌+◌, ◌⊎◌, ⊎_elim, List, [], ◌∷◌, length, map, replicate, take, Some, None, slice_get, refl, sym, ap, ◌∙◌, subst, arith}
use Rattle.sv_model.specs.declared.records.RegisteredFile.{RegisteredFile}
use Rattle.sv_model.specs.declared.records.FileStatus.TheVariants.{Pending, Live, Grabbed}
use Rattle.sv_model.specs.Lists.{In, same, times}
use Rattle.sv_model.specs.Numbers.{NumbersStand, captures, registered}
use Rattle.sv_model.specs.Registers.{entry}
use Rattle.sv_model.proofs.Lists.{in_times}
use Rattle.sv_files.specs.Calls.{AreNamed, live_file}
use Rattle.sv_files.proofs.Registered.{some_is}
use Rattle.sv_files.proofs.ScanLaws.{times-le}

-- the numbers of named files
abbrev pub numbers_named : List (ℕ × ℕ) → List ℕ
numbers_named files = map (λ (f : ℕ × ℕ). f.1) files

registered-live : (n : ℕ) (files : List (ℕ × ℕ)) → registered n (map live_file files) ≡ times n (numbers_named files)
registered-live n [] = refl
registered-live n (f ∷ files) = ap (λ k. same n f.1 + k) (registered-live n files)

pub captures-live : (files : List (ℕ × ℕ)) → captures (map live_file files) ≡ length files
captures-live [] = refl
captures-live (f ∷ files) = omega (arith, captures-live files)

live-entry : (files : List (ℕ × ℕ)) (p : ℕ) (x : RegisteredFile) → slice_get (map live_file files) p ≡ Some x → (f : ℕ × ℕ) × (slice_get files p ≡ Some f) × (x ≡ live_file f)
live-entry [] p x at = absurd (cc)
live-entry (f ∷ files) zero x at = (f, refl, sym (some_is (live_file f) x at))
live-entry (f ∷ files) (suc p) x at = live-entry files p x at

-- ---- the laws stand of named numbers
module _ (next : ℕ) (files : List (ℕ × ℕ)) (h : AreNamed next files) (least : 1 ≤ next) (most : next ≤ 18446744073709551615) where
  by-entry : {P : Type 0} (i : ℕ) (x : RegisteredFile) → entry (map live_file files) i ≡ Some x → ((f : ℕ × ℕ) → (1 ≤ f.1) × (f.1 < next) → x ≡ live_file f → P) → P
  by-entry zero x at then = absurd (cc)
  by-entry (suc p) x at then = let f = live-entry files p x at in then f.0 (h.within p f.0 f.1) f.2

  live_pending : {A : Type 0} → Live ≡ Pending → A
  live_pending e = absurd (cc)

  live_grabbed : {A : Type 0} → Live ≡ Grabbed → A
  live_grabbed e = absurd (cc)

  idle : {P : Type 0} (k f n : ℕ) → slice_get (replicate k None) f ≡ Some (Some n) → P
  idle zero f n e = absurd (cc)
  idle (suc k) zero n e = absurd (let both : None ≡ Some n = some_is None (Some n) e in cc)
  idle (suc k) (suc f) n e = idle k f n e

  pub numbers-named : NumbersStand (map live_file files) (replicate 16 None) next
  numbers-named = record {
    once = λ n. omega (arith, registered-live n files, times-le (numbers_named files) n h.apart);
    below = λ i x at. by-entry i x at (λ f w e. omega (arith, w.1, ap (λ (z : RegisteredFile). z.number) e));
    pending = λ i x at p. by-entry i x at (λ f w e. live_pending (ap (λ (z : RegisteredFile). z.status) (sym e) ∙ p));
    held = λ f n e. idle 16 f n e;
    drawn = λ i x at p. by-entry i x at (λ f w e. omega (arith, w.0, ap (λ (z : RegisteredFile). z.number) e));
    grabbed = λ i x at p f n c. live_grabbed (by-entry i x at (λ g w e. ap (λ (z : RegisteredFile). z.status) (sym e) ∙ p));
    least = least;
    most = most;
  }

-- ---- one named number more is new
in-take : (xs : List ℕ) (i n : ℕ) → In n (take i xs) → (j : ℕ) × (j < i) × (slice_get xs j ≡ Some n)
in-take [] zero n there = absurd (cc)
in-take [] (suc i) n there = absurd (cc)
in-take (x ∷ xs) zero n there = absurd (cc)
in-take (x ∷ xs) (suc i) n there = by-place there.at there.is (λ t. in-take xs i n t)
  where
    by-place : (k : ℕ) → slice_get (take (suc i) (x ∷ xs)) k ≡ Some n → (In n (take i xs) → (j : ℕ) × (j < i) × (slice_get xs j ≡ Some n)) → (j : ℕ) × (j < suc i) × (slice_get (x ∷ xs) j ≡ Some n)
    by-place zero at rest = (0, omega arith, at)
    by-place (suc k) at rest = let t = rest (record { at = k; is = at }) in (suc t.0, omega (arith, t.1), t.2)

map-take : (files : List (ℕ × ℕ)) (i : ℕ) → numbers_named (take i files) ≡ take i (numbers_named files)
map-take [] zero = refl
map-take [] (suc i) = refl
map-take (f ∷ files) zero = refl
map-take (f ∷ files) (suc i) = ap (λ l. f.1 ∷ l) (map-take files i)

map-at : (files : List (ℕ × ℕ)) (i : ℕ) (f : ℕ × ℕ) → slice_get files i ≡ Some f → slice_get (numbers_named files) i ≡ Some f.1
map-at [] i f at = absurd (cc)
map-at (g ∷ files) zero f at = ap (λ (k : ℕ × ℕ). Some k.1) (some_is g f at)
map-at (g ∷ files) (suc i) f at = map-at files i f at

pub named-new : (next : ℕ) (files : List (ℕ × ℕ)) (i : ℕ) (f : ℕ × ℕ) → AreNamed next files → slice_get files i ≡ Some f → registered f.1 (map live_file (take i files)) ≡ 0
named-new next files i f h at =
    let cases : (registered f.1 (map live_file (take i files)) ≡ 0) ⊎ (0 < registered f.1 (map live_file (take i files))) = grind arith in
    ⊎_elim (λ none. none)
    (λ some. (
    let there = in_times f.1 (numbers_named (take i files)) (omega (arith, some, registered-live f.1 (take i files))) in
    let t = in-take (numbers_named files) i f.1 (subst (λ l. In f.1 l) (map-take files i) there) in
    let e = h.apart t.0 i f.1 t.2 (map-at files i f at) in absurd (omega (arith, t.1, e))))
    cases
