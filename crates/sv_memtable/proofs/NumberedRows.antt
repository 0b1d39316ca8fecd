-- Rows with their numbers: each number leads back to its row, and the newest row of a key among the first rows is the
-- last of that key whose number is not above their count.
use Rattle.std.proofs.Common.{◌≡◌, ℕ, suc, ◌+◌, ◌-◌, Bool, true, false, cond, ◌&&◌, nat_le, List, [], ◌∷◌, ◌++◌, length, take, map, Option, Some, None, refl, sym, ap, ◌∙◌, arith}
use Rattle.std.specs.Prelude.{find, reverse, slice_get, option_map, IfSome}
use Rattle.std.specs.Option.{option_or}
use Rattle.std.specs.List.{filter, AllByRecursion}
use Rattle.std.proofs.lemmas.List.{reverse-append}
use Rattle.std.proofs.lemmas.List.Folds.{find-append}
use Rattle.sv_model.specs.declared.writes.Row.{Row}
use Rattle.sv_model.specs.declared.writes.Numbered.{Numbered}
use Rattle.sv_model.specs.Flat.{numbered_after}
use Rattle.sv_model.specs.Journal.{same_key, newest_row}
use Rattle.sv_model.specs.Order.{key_of_numbered, number_of}
use Rattle.sv_model.specs.Registers.{entry}
use Rattle.sv_model.proofs.FlatReads.{newest_upto}

-- ---- the last that passes

abbrev pub find_last : {A : Type 0} → (A → Bool) → List A → Option A
find_last test [] = None
find_last test (x ∷ xs) = option_or (find_last test xs) (cond (test x) (Some x) None)

pub find-reverse : {A : Type 0} (test : A → Bool) (xs : List A) → find test (reverse xs) ≡ find_last test xs
find-reverse test [] = refl
find-reverse test (x ∷ xs) =
    ap (find test) (reverse-append (x ∷ []) xs)
    ∙ find-append test (reverse xs) (x ∷ [])
    ∙ ap (λ o. option_or o (cond (test x) (Some x) None)) (find-reverse test xs)

-- what holds of all holds of the last that passes
one_or : {A : Type 0} (P : A → Type 0) (b : Bool) (x : A) (o : Option A) → P x → IfSome o P → IfSome (option_or o (cond b (Some x) None)) P
one_or P b x (Some y) p q = q
one_or P true x None p q = p
one_or P false x None p q = tt

pub if_last : {A : Type 0} (P : A → Type 0) (test : A → Bool) (xs : List A) → AllByRecursion P xs → IfSome (find_last test xs) P
if_last P test [] all = tt
if_last P test (x ∷ xs) all = one_or P (test x) x (find_last test xs) all.0 (if_last P test xs all.1)

-- among items that are chosen by one test and seen by f, the last of another test
last_map : {A B : Type 0} (f : A → B) (a b : Bool) (x : A) (o : Option A) → option_or (option_map f o) (cond a (cond b (Some (f x)) None) None) ≡ option_map f (option_or o (cond (a && b) (Some x) None))
last_map f a b x (Some y) = refl
last_map f true true x None = refl
last_map f true false x None = refl
last_map f false b x None = refl

last_kept : {A B : Type 0} (f : A → B) (test : B → Bool) (b : Bool) (x : A) (xs : List A) → find_last test (map f (cond b (x ∷ xs) xs)) ≡ option_or (find_last test (map f xs)) (cond b (cond (test (f x)) (Some (f x)) None) None)
last_kept f test true x xs = refl
last_kept f test false x xs = sym (or_none (find_last test (map f xs)))
  where
    or_none : {B : Type 0} (o : Option B) → option_or o None ≡ o
    or_none None = refl
    or_none (Some y) = refl

pub last_of_chosen : {A B : Type 0} (f : A → B) (test : B → Bool) (chosen : A → Bool) (xs : List A) → find_last test (map f (filter chosen xs)) ≡ option_map f (find_last (λ x. chosen x && test (f x)) xs)
last_of_chosen f test chosen [] = refl
last_of_chosen f test chosen (x ∷ xs) =
    last_kept f test (chosen x) x (filter chosen xs)
    ∙ ap (λ o. option_or o (cond (chosen x) (cond (test (f x)) (Some (f x)) None) None)) (last_of_chosen f test chosen xs)
    ∙ last_map f (chosen x) (test (f x)) x (find_last (λ x. chosen x && test (f x)) xs)

-- ---- the newest among the first rows

abbrev pub is_upto : List ℕ → ℕ → Numbered → Bool
is_upto key cut n = same_key key (key_of_numbered n) && nat_le (number_of n) cut

-- the newest row of a key among the first rows
pub newest_among : (key : List ℕ) (cut : ℕ) (rows : List Row) → option_map (λ (n : Numbered). n.row) (find (is_upto key cut) (reverse (numbered_after 0 rows))) ≡ newest_row key (take cut rows)
newest_among key cut rows =
    let all : cut - 0 ≡ cut = omega arith in
    newest_upto key cut 0 rows ∙ ap (λ n. newest_row key (take n rows)) all

-- ---- each number leads back to its row

abbrev pub Bears : ℕ → List Row → Numbered → Type 0
Bears before rows n = (i : ℕ) × (n.number ≡ suc (before + i)) × (slice_get rows i ≡ Some n.row)

later_bears : (before : ℕ) (row : Row) (rows : List Row) (ns : List Numbered) → AllByRecursion (Bears (suc before) rows) ns → AllByRecursion (Bears before (row ∷ rows)) ns
later_bears before row rows [] all = tt
later_bears before row rows (n ∷ ns) all = ((suc all.0.0, omega (arith, all.0.1), all.0.2), later_bears before row rows ns all.1)

pub all_bear : (before : ℕ) (rows : List Row) → AllByRecursion (Bears before rows) (numbered_after before rows)
all_bear before [] = tt
all_bear before (row ∷ rows) = ((0, omega arith, refl), later_bears before row rows (numbered_after (suc before) rows) (all_bear (suc before) rows))

abbrev pub LeadsBack : List Row → Numbered → Type 0
LeadsBack rows n = entry rows n.number ≡ Some n.row

leads_back : (rows : List Row) (ns : List Numbered) → AllByRecursion (Bears 0 rows) ns → AllByRecursion (LeadsBack rows) ns
leads_back rows [] all = tt
leads_back rows (n ∷ ns) all =
    let e : n.number ≡ suc all.0.0 = omega (arith, all.0.1) in
    (ap (entry rows) e ∙ all.0.2, leads_back rows ns all.1)

pub all_lead_back : (rows : List Row) → AllByRecursion (LeadsBack rows) (numbered_after 0 rows)
all_lead_back rows = leads_back rows (numbered_after 0 rows) (all_bear 0 rows)

-- ---- one more row

pub numbered-push : (before n : ℕ) (rows : List Row) (row : Row) → n ≡ before + length rows → numbered_after before (rows ++ row ∷ []) ≡ numbered_after before rows ++ record { number = suc n; row = row } ∷ []
numbered-push before n [] row e = let same : before ≡ n = omega arith in ap (λ m. record { number = suc m; row = row } ∷ []) same
numbered-push before n (r ∷ rows) row e = ap (λ l. record { number = suc before; row = r } ∷ l) (numbered-push (suc before) n rows row (omega arith))
