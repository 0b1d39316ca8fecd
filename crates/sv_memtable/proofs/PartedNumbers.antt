-- Numbers of which those that pass a test stand first: the last that passes.
use Rattle.std.proofs.Common.{◌≡◌, ◌<◌, ◌≤◌, ℕ, zero, suc, ◌-◌, Bool, true, false, cond, nat_le, List, [], ◌∷◌, ◌++◌, length, take, get_or, Some, None, refl, sym, ap, subst, ◌∙◌, arith}
use Rattle.std.specs.Prelude.{find, reverse}
use Rattle.std.specs.Option.{option_or}
use Rattle.std.specs.List.{AllWithin}
use Rattle.std.specs.List.Sorted.{IsNonDecreasing, IsPartitionPoint}
use Rattle.std.proofs.lemmas.Bool.{lt-leb}
use Rattle.std.proofs.lemmas.List.{reverse-append, take-append-le}
use Rattle.std.proofs.lemmas.List.Sorted.{IsNonDecreasingBy-take}
use Rattle.std.proofs.Math.Seq.{take-length}
use Rattle.sv_memtable.proofs.NumberedRows.{find_last, find-reverse}

none_last : (test : ℕ → Bool) (xs : List ℕ) → AllWithin (λ y. test y ≡ false) xs 0 (length xs) → find_last test xs ≡ None
none_last test [] fail = refl
none_last test (x ∷ xs) fail =
    ap (λ o. option_or o (cond (test x) (Some x) None)) (none_last test xs (λ k d low lt. fail (suc k) d (omega arith) (omega arith)))
    ∙ ap (λ b. cond b (Some x) None) (fail 0 x (omega arith) (omega arith))

last_at : (test : ℕ → Bool) (xs : List ℕ) (k d : ℕ) → suc k ≤ length xs → AllWithin (λ y. test y ≡ true) xs 0 (suc k) → AllWithin (λ y. test y ≡ false) xs (suc k) (length xs) → find_last test xs ≡ Some (get_or xs k d)
last_at test [] k d le pass fail = absurd (omega arith)
last_at test (x ∷ xs) zero d le pass fail =
    ap (λ o. option_or o (cond (test x) (Some x) None)) (none_last test xs (λ k d low lt. fail (suc k) d (omega arith) (omega arith)))
    ∙ ap (λ b. cond b (Some x) None) (pass 0 x (omega arith) (omega arith))
last_at test (x ∷ xs) (suc k) d le pass fail =
    ap (λ o. option_or o (cond (test x) (Some x) None)) (last_at test xs k d (omega arith) (λ i e low lt. pass (suc i) e (omega arith) (omega arith)) (λ i e low lt. fail (suc i) e (omega arith) (omega arith)))

-- the last is not at most the cut, so what is found stands before it
skipped : (older : List ℕ) (newest upto : ℕ) → upto < newest → find (λ n. nat_le n upto) (reverse (older ++ newest ∷ [])) ≡ find_last (λ n. nat_le n upto) older
skipped older newest upto lt =
    ap (find (λ n. nat_le n upto)) (reverse-append older (newest ∷ []))
    ∙ ap (λ b. cond b (Some newest) (find (λ n. nat_le n upto) (reverse older))) (lt-leb newest upto lt)
    ∙ find-reverse (λ n. nat_le n upto) older

pub found_none : (older : List ℕ) (newest upto at : ℕ) → upto < newest → at ≡ 0 → IsPartitionPoint (λ y. nat_le y upto ≡ true) (λ y. nat_le y upto ≡ false) older at → None ≡ find (λ n. nat_le n upto) (reverse (older ++ newest ∷ []))
found_none older newest upto at lt none part =
    sym (skipped older newest upto lt ∙ none_last (λ n. nat_le n upto) older (λ k d low less. part.1 k d (omega arith) less))

pub found_at : (older : List ℕ) (newest upto at d : ℕ) → upto < newest → (at ≡ 0 → ⊥) → at ≤ length older → IsPartitionPoint (λ y. nat_le y upto ≡ true) (λ y. nat_le y upto ≡ false) older at → Some (get_or older (at - 1) d) ≡ find (λ n. nat_le n upto) (reverse (older ++ newest ∷ []))
found_at older newest upto at d lt some bound part =
    sym (skipped older newest upto lt
    ∙ last_at (λ n. nat_le n upto) older (at - 1) d (omega arith) (λ k e low less. part.0 k e low (omega arith)) (λ k e low less. part.1 k e (omega arith) less))

pub older_rise : (older : List ℕ) (newest : ℕ) → IsNonDecreasing (older ++ newest ∷ []) → IsNonDecreasing older
older_rise older newest up =
    let front : take (length older) (older ++ newest ∷ []) ≡ older = take-append-le (length older) older (newest ∷ []) (omega arith) ∙ take-length older in
    subst IsNonDecreasing front (IsNonDecreasingBy-take (λ n. n) (length older) (older ++ newest ∷ []) up)
