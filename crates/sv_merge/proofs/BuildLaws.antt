-- What is built of a range's writes is their flat.
use Rattle.std.proofs.Common.{◌≡◌, ℕ, zero, suc, ◌<◌, ◌≤◌, ◌+◌, Bool, true, false, cond, List, [], ◌∷◌, length, map, reverse, get_or, None, refl, sym, ap, subst, ◌∙◌, arith, Bor}
use Rattle.std.specs.List.{filter, dedup}
use Rattle.std.specs.List.Sorted.{IsPermutation, IsSortedBy, IsNonDecreasing}
use Rattle.std.proofs.lemmas.List.{get_or-map, length-map}
use Rattle.std.proofs.lemmas.List.Sorted.{IsPermutation-trans, IsPermutation-map, length_permutation}
use Rattle.sv_model.specs.declared.writes.Row.{Row}
use Rattle.sv_model.specs.declared.writes.Kept.{Kept}
use Rattle.sv_model.specs.declared.writes.Numbered.{Numbered}
use Rattle.sv_model.specs.declared.cuts.Bottom.{Bottom}
use Rattle.sv_model.specs.Order.{RisesFrom, RisesBy, key_of_kept, key_of_numbered}
use Rattle.sv_model.specs.Flat.{numbered_after, of_key, ends_of, stays, IsFlatOf, CutsFrom, AreCuts}
use Rattle.sv_model.proofs.FlatEnds.{among_is}
use Rattle.sv_model.proofs.FlatFirsts.{firsts, mark, marks, has_key, NumbersFall, numbers_fall, numbers_filter, newest_firsts}
use Rattle.sv_model.proofs.FlatLaws.{flat_of_keys, length_numbered}
use Rattle.sv_merge.specs.Building.{is_ahead, IsNewestFirst, placed}
use Rattle.sv_merge.specs.Placing.{same_place, thinned}
use Rattle.sv_merge.proofs.NewestFirst.{Stand, stand, stand_rises, newest_rows}
use Rattle.sv_merge.proofs.ThinnedLaws.{left_rises, left_key}

-- ---- rows that are referred to

first_ref : (x : Bor Numbered) (refs : List (Bor Numbered)) → IsSortedBy (λ x y. is_ahead x.now y.now) (x ∷ refs)
    → IsSortedBy is_ahead (map (λ n. n.now) (x ∷ refs))
first_ref x refs up k d low lt =
    let all = x ∷ refs in
    let now : Bor Numbered → Numbered = λ n. n.now in
    let e : Bor Numbered = record { ref_ptr = x.ref_ptr; now = d } in
    let len = length-map all now in
    (λ i. is_ahead (get_or-map now all (k + 1) e d (omega (arith, len)) i) (get_or-map now all k e d (omega (arith, len)) i))
    ∙ up k e low (omega (arith, len))

sorted_refs : (refs : List (Bor Numbered)) → IsSortedBy (λ x y. is_ahead x.now y.now) refs
    → IsSortedBy is_ahead (map (λ n. n.now) refs)
sorted_refs [] up = λ k d low lt. absurd (omega arith)
sorted_refs (x ∷ refs) up = first_ref x refs up

pub newest_first : (rows : List Numbered) (old new : List (Bor Numbered)) → map (λ n. n.now) old ≡ rows
    → IsPermutation old new → IsSortedBy (λ x y. is_ahead x.now y.now) new → IsNewestFirst rows (map (λ n. n.now) new)
newest_first rows old new is permuted up = record {
  same = subst (λ (l : List Numbered). IsPermutation l (map (λ (n : Bor Numbered). n.now) new)) is (IsPermutation-map (λ (n : Bor Numbered). n.now) old new permuted);
  sorted = sorted_refs new up;
}

-- ---- rows under their ends

of_placed : (cuts : List ℕ) (to : ℕ) (key : List ℕ) (rows : List Numbered)
    → of_key key (map (placed cuts to) rows) ≡ map (placed cuts to) (filter (has_key key) rows)
of_placed cuts to key [] = refl
of_placed cuts to key (n ∷ rows) = at (has_key key n) (of_placed cuts to key rows)
  where
    at : (b : Bool) → of_key key (map (placed cuts to) rows) ≡ map (placed cuts to) (filter (has_key key) rows)
        → cond b (placed cuts to n ∷ of_key key (map (placed cuts to) rows)) (of_key key (map (placed cuts to) rows)) ≡ map (placed cuts to) (cond b (n ∷ filter (has_key key) rows) (filter (has_key key) rows))
    at true h = ap (λ l. placed cuts to n ∷ l) h
    at false h = h

rises_placed_from : (cuts : List ℕ) (to : ℕ) (x : Numbered) (rows : List Numbered) → RisesFrom key_of_numbered x rows
    → RisesFrom key_of_kept (placed cuts to x) (map (placed cuts to) rows)
rises_placed_from cuts to x [] up = tt
rises_placed_from cuts to x (y ∷ rows) up = (up.0, rises_placed_from cuts to y rows up.1)

rises_placed : (cuts : List ℕ) (to : ℕ) (rows : List Numbered) → RisesBy key_of_numbered rows
    → RisesBy key_of_kept (map (placed cuts to) rows)
rises_placed cuts to [] up = tt
rises_placed cuts to (x ∷ rows) up = rises_placed_from cuts to x rows up

placed_marks : (cuts : List ℕ) (to low high : ℕ) (rows : List Numbered) → high ≤ to → NumbersFall low high rows
    → map (placed cuts to) rows ≡ map (mark (ends_of cuts to)) rows
placed_marks cuts to low high [] most fall = refl
placed_marks cuts to low high (n ∷ rows) most fall =
    let le : n.number ≤ to = omega (arith, fall.0) in
    (λ i. record { end = among_is cuts to n.number le i; row = n.row } ∷ placed_marks cuts to low n.number rows le fall.2 i)

-- two lists of writes with the same rows are as long
pub same_length : (from : ℕ) (writes others : List Row) (rows : List Numbered)
    → IsPermutation (numbered_after from writes) rows → IsPermutation (numbered_after from others) rows
    → length writes ≡ length others
same_length from writes others rows p q =
    sym (length_numbered from writes)
    ∙ sym (length_permutation (numbered_after from writes) rows p)
    ∙ length_permutation (numbered_after from others) rows q
    ∙ length_numbered from others

pub built_flat : (from to : ℕ) (bottom : Bottom) (writes : List Row) (rows sorted : List Numbered)
    → AreCuts from to bottom.cuts → from + length writes ≡ to → IsPermutation (numbered_after from writes) rows
    → IsNewestFirst rows sorted
    → IsFlatOf from to bottom writes (thinned bottom.last (dedup same_place (map (placed bottom.cuts to) sorted)))
built_flat from to bottom writes rows sorted are full permuted order =
    let cuts = bottom.cuts in
    let turned = reverse (numbered_after from writes) in
    let up : Stand sorted = stand sorted order.sorted in
    let kept = map (placed cuts to) sorted in
    let rises : RisesBy key_of_kept kept = rises_placed cuts to sorted (stand_rises sorted up) in
    let fit : from + length writes ≤ to = omega arith in
    let own : (key : List ℕ) → of_key key kept ≡ marks (ends_of cuts to) key turned = λ (key : List ℕ).
    of_placed cuts to key sorted
    ∙ ap (map (placed cuts to)) (newest_rows from writes sorted (IsPermutation-trans (numbered_after from writes) rows sorted permuted order.same) up key)
    ∙ placed_marks cuts to from to (filter (has_key key) turned) (omega arith) (numbers_filter (has_key key) from to turned (numbers_fall from writes from to (omega arith) fit)) in
    flat_of_keys from to bottom writes (thinned bottom.last (dedup same_place kept)) are fit (left_rises bottom.last kept rises) (λ key.
    left_key bottom.last key kept rises
    ∙ ap (λ (l : List Kept). stays bottom.last (firsts None l)) (own key)
    ∙ ap (stays bottom.last) (sym (newest_firsts from to cuts are.ascend writes fit key)))

-- ---- cuts

cut_above : (low : ℕ) (cuts : List ℕ) (high : ℕ) → CutsFrom low cuts high → (j d : ℕ) → j < length cuts
    → low ≤ get_or cuts j d
cut_above low [] high are j d lt = absurd (omega arith)
cut_above low (c ∷ cuts) high are zero d lt = omega (arith, are.0)
cut_above low (c ∷ cuts) high are (suc j) d lt = omega (arith, are.0, cut_above c cuts high are.2 j d (omega arith))

pub cuts_rise : (low : ℕ) (cuts : List ℕ) (high : ℕ) → CutsFrom low cuts high → IsNonDecreasing cuts
cuts_rise low [] high are i j d le lt = absurd (omega arith)
cuts_rise low (c ∷ cuts) high are zero zero d le lt = omega arith
cuts_rise low (c ∷ cuts) high are zero (suc j) d le lt = cut_above c cuts high are.2 j d (omega arith)
cuts_rise low (c ∷ cuts) high are (suc i) zero d le lt = absurd (omega arith)
cuts_rise low (c ∷ cuts) high are (suc i) (suc j) d le lt = cuts_rise c cuts high are.2 i j d (omega arith) (omega arith)
