-- The rows of frozen memtables are numbered on from one memtable to the next.
use Rattle.std.proofs.Common.{◌+◌, ◌≡◌, ◌<◌, ◌≤◌, ◌^◌, ℕ, suc, List, [], ◌∷◌, ◌++◌, map, take, drop, get_or, length, refl, sym, ap, subst, ◌∙◌, arith, append_assoc, length-append}
use Rattle.std.specs.Arc.{arc_value}
use Rattle.std.specs.declared.sync.Arc.{Arc}
use Rattle.std.specs.List.{AllByRecursion}
use Rattle.std.specs.List.Sorted.{IsPermutation}
use Rattle.std.proofs.lemmas.List.{append-nil, take-append-drop, take_more}
use Rattle.std.proofs.lemmas.List.Elements.{All-from_recursion, recursion_from_All}
use Rattle.std.proofs.lemmas.List.Sorted.{All-permutation, IsPermutation-append, IsPermutation-map, length_permutation}
use Rattle.sv_model.specs.declared.writes.Row.{Row}
use Rattle.sv_model.specs.declared.writes.Numbered.{Numbered}
use Rattle.sv_model.specs.Cells.{Cell}
use Rattle.sv_model.specs.Flat.{numbered_after}
use Rattle.sv_model.proofs.FlatLaws.{length_numbered}
use Rattle.sv_outputs.specs.Flushing.{moved_on, rows_in}

-- ---- the rows of several memtables

rows-append : {Z : Type 0} (xs ys : List (ℕ × Arc Cell Z)) → rows_in (xs ++ ys) ≡ rows_in xs ++ rows_in ys
rows-append [] ys = refl
rows-append (x ∷ xs) ys =
    ap (λ (l : List Row). (arc_value x.1).rows ++ l) (rows-append xs ys) ∙ sym (append_assoc (arc_value x.1).rows (rows_in xs) (rows_in ys))

numbered-append : (before : ℕ) (xs ys : List Row) → numbered_after before (xs ++ ys) ≡ numbered_after before xs ++ numbered_after (before + length xs) ys
numbered-append before [] ys = ap (λ n. numbered_after n ys) (let e : before ≡ before + 0 = omega arith in e)
numbered-append before (x ∷ xs) ys =
    ap (λ (l : List Numbered). record { number = suc before; row = x } ∷ l)
    (numbered-append (suc before) xs ys ∙ ap (λ n. numbered_after (suc before) xs ++ numbered_after n ys) (let e : suc before + length xs ≡ before + suc (length xs) = omega arith in e))

rows-more : {Z : Type 0} (fs : List (ℕ × Arc Cell Z)) (i : ℕ) (f : ℕ × Arc Cell Z) → i < length fs → f ≡ get_or fs i f
    → rows_in (take (i + 1) fs) ≡ rows_in (take i fs) ++ (arc_value f.1).rows
rows-more {Z} fs i f lt is =
    ap (λ (l : List (ℕ × Arc Cell Z)). rows_in l) (take_more fs i f lt ∙ ap (λ (x : ℕ × Arc Cell Z). take i fs ++ x ∷ []) (sym is))
    ∙ rows-append (take i fs) (f ∷ [])
    ∙ ap (λ (l : List Row). rows_in (take i fs) ++ l) (append-nil (arc_value f.1).rows)

rows-le : {Z : Type 0} (fs : List (ℕ × Arc Cell Z)) (n : ℕ) → length (rows_in (take n fs)) ≤ length (rows_in fs)
rows-le {Z} fs n =
    let front = rows_in (take n fs) in
    let back = rows_in (drop n fs) in
    let both : length (rows_in fs) ≡ length front + length back =
    ap (λ (l : List (ℕ × Arc Cell Z)). length (rows_in l)) (sym (take-append-drop n fs)) ∙ ap length (rows-append (take n fs) (drop n fs)) ∙ length-append front back in
    omega arith

-- ---- the numbers

each_fits : (before at : ℕ) (rows : List Row) → before + (at + length rows) < 2 ^ 64 → AllByRecursion (λ (n : Numbered). before + n.number < 2 ^ 64) (numbered_after at rows)
each_fits before at [] few = tt
each_fits before at (x ∷ rows) few = (omega (arith, few), each_fits before (suc at) rows (omega (arith, few)))

-- no row of a memtable that is numbered on passes 64 bits
pub frozen_fits : (before : ℕ) (rows : List Row) (frozen : List Numbered) → before + length rows < 2 ^ 64 → IsPermutation (numbered_after 0 rows) frozen
    → AllByRecursion (λ (n : Numbered). before + n.number < 2 ^ 64) frozen
frozen_fits before rows frozen few all =
    let P = λ (n : Numbered). before + n.number < 2 ^ 64 in
    recursion_from_All P frozen (All-permutation P (numbered_after 0 rows) frozen all (All-from_recursion P (numbered_after 0 rows) (each_fits before 0 rows (omega (arith, few)))))

-- the rows of one memtable, moved on
moved_numbered : (before at : ℕ) (rows : List Row) → map (moved_on before) (numbered_after at rows) ≡ numbered_after (before + at) rows
moved_numbered before at [] = refl
moved_numbered before at (x ∷ rows) =
    let on : before + suc at ≡ suc (before + at) = omega arith in
    ap (λ (n : ℕ). record { number = n; row = x } ∷ map (moved_on before) (numbered_after (suc at) rows)) on
    ∙ ap (λ (l : List Numbered). record { number = suc (before + at); row = x } ∷ l) (moved_numbered before (suc at) rows ∙ ap (λ n. numbered_after n rows) on)

-- ---- the memtables so far

count_so_far : {Z : Type 0} (fs : List (ℕ × Arc Cell Z)) (from i : ℕ) (old : List Numbered) → IsPermutation (numbered_after from (rows_in (take i fs))) old
    → length old ≡ length (rows_in (take i fs))
count_so_far fs from i old so =
    length_permutation (numbered_after from (rows_in (take i fs))) old so ∙ length_numbered from (rows_in (take i fs))

-- the number before the next memtable's rows, and their numbers, fit
pub next_fits : {Z : Type 0} (fs : List (ℕ × Arc Cell Z)) (from i : ℕ) (f : ℕ × Arc Cell Z) (old : List Numbered)
    → from + length (rows_in fs) < 2 ^ 64 → i < length fs → f ≡ get_or fs i f → IsPermutation (numbered_after from (rows_in (take i fs))) old
    → (from + length old) + length (arc_value f.1).rows < 2 ^ 64
next_fits fs from i f old few lt is so =
    let count = count_so_far fs from i old so in
    let more : length (rows_in (take (i + 1) fs)) ≡ length (rows_in (take i fs)) + length (arc_value f.1).rows =
    ap length (rows-more fs i f lt is) ∙ length-append (rows_in (take i fs)) (arc_value f.1).rows in
    let most = rows-le fs (i + 1) in
    omega (arith, few, count, more, most)

pub so_far_fits : {Z : Type 0} (fs : List (ℕ × Arc Cell Z)) (from i : ℕ) (old : List Numbered)
    → from + length (rows_in fs) < 2 ^ 64 → IsPermutation (numbered_after from (rows_in (take i fs))) old → from + length old < 2 ^ 64
so_far_fits fs from i old few so =
    let count = count_so_far fs from i old so in
    let most = rows-le fs i in
    omega (arith, few, count, most)

-- the next memtable's rows are appended
pub next_rows : {Z : Type 0} (fs : List (ℕ × Arc Cell Z)) (from i : ℕ) (f : ℕ × Arc Cell Z) (old frozen : List Numbered)
    → i < length fs → f ≡ get_or fs i f → IsPermutation (numbered_after from (rows_in (take i fs))) old → IsPermutation (numbered_after 0 (arc_value f.1).rows) frozen
    → IsPermutation (numbered_after from (rows_in (take (i + 1) fs))) (old ++ map (moved_on (from + length old)) frozen)
next_rows fs from i f old frozen lt is so all =
    let before = from + length old in
    let first = rows_in (take i fs) in
    let rows = (arc_value f.1).rows in
    let count = count_so_far fs from i old so in
    let here : IsPermutation (numbered_after before rows) (map (moved_on before) frozen) =
    subst (λ (l : List Numbered). IsPermutation l (map (moved_on before) frozen))
    (moved_numbered before 0 rows ∙ ap (λ (n : ℕ). numbered_after n rows) (let e : before + 0 ≡ before = omega arith in e))
    (IsPermutation-map (moved_on before) (numbered_after 0 rows) frozen all) in
    let parts : numbered_after from (rows_in (take (i + 1) fs)) ≡ numbered_after from first ++ numbered_after before rows =
    ap (numbered_after from) (rows-more fs i f lt is)
    ∙ numbered-append from first rows
    ∙ ap (λ (n : ℕ). numbered_after from first ++ numbered_after (from + n) rows) (sym count) in
    subst (λ (l : List Numbered). IsPermutation l (old ++ map (moved_on before) frozen)) (sym parts)
    (IsPermutation-append (numbered_after from first) old (numbered_after before rows) (map (moved_on before) frozen) so here)
