-- The loops that count the items of a holder once more, or once less, one after the other.
use Rattle.std.proofs.Common.{◌≡◌, ℕ, zero, suc, ◌+◌, ◌-◌, ◌<◌, ◌≤◌, List, [], ◌∷◌, ◌++◌, length, get_or, take, drop, arith, refl, sym, ap, subst, ◌∙◌, append_assoc, append-nil, take-append-drop}
use Rattle.std.proofs.lemmas.List.{take_more, drop_more, take_all, drop_all, length_push}
use Rattle.sv_model.specs.Lists.{IsChosen, same, times}
use Rattle.sv_model.proofs.Lists.{total-append, total-push, same_here}
use Rattle.sv_model.proofs.Freed.{freed, freed-take, freed-leave, freed-same, freed_chosen}

-- one more item
pub times-take_more : (m : ℕ) (xs : List ℕ) (i x : ℕ) → i < length xs → x ≡ get_or xs i 0 → times m (take (i + 1) xs) ≡ times m (take i xs) + same m x
times-take_more m xs i x within read =
    let e : take (i + 1) xs ≡ take i xs ++ x ∷ [] = subst (λ y. take (i + 1) xs ≡ take i xs ++ y ∷ []) (sym read) (take_more xs i 0 within) in
    ap (times m) e ∙ total-push (same m) (take i xs) x

-- the items so far, this one and the others
pub times_split : (m : ℕ) (xs : List ℕ) (i x : ℕ) → i < length xs → x ≡ get_or xs i 0 → times m xs ≡ times m (take i xs) + same m x + times m (drop (i + 1) xs)
times_split m xs i x within read =
    let e = ap (times m) (sym (take-append-drop (i + 1) xs)) in
    let f = total-append (same m) (take (i + 1) xs) (drop (i + 1) xs) in
    let g = times-take_more m xs i x within read in
    omega arith

drop-read : (xs : List ℕ) (i x : ℕ) → i < length xs → x ≡ get_or xs i 0 → drop i xs ≡ x ∷ drop (i + 1) xs
drop-read xs i x within read = subst (λ y. drop i xs ≡ y ∷ drop (i + 1) xs) (sym read) (drop_more xs i 0 within)

-- After i items: each counts once less than at first, and those whose count came to 0 are given.
pub record Lowering (first now : ℕ → ℕ) (xs : List ℕ) (i : ℕ) (given : List ℕ) : Type 0 where
  pub counts : (m : ℕ) → first m ≡ now m + times m (take i xs)
  pub chosen : given ++ freed (λ m. first m - times m xs) (drop i xs) ≡ freed (λ m. first m - times m xs) xs
  pub short : length given ≤ i

pub lowering_start : (first : ℕ → ℕ) (xs : List ℕ) → Lowering first first xs 0 []
lowering_start first xs = record { counts = λ m. omega arith; chosen = refl; short = omega arith }

-- the next item is counted
pub lowering_held : (first now : ℕ → ℕ) (xs given : List ℕ) (i x : ℕ) → ((m : ℕ) → times m xs ≤ first m) → i < length xs → x ≡ get_or xs i 0 → Lowering first now xs i given → 0 < now x
lowering_held first now xs given i x enough within read so =
    let a = times_split x xs i x within read in
    let b = so.counts x in
    let c = enough x in
    let d = same_here x in
    omega arith

counts-more : (first now next : ℕ → ℕ) (xs : List ℕ) (i x m : ℕ) → i < length xs → x ≡ get_or xs i 0 → first m ≡ now m + times m (take i xs) → now m ≡ next m + same m x → first m ≡ next m + times m (take (i + 1) xs)
counts-more first now next xs i x m within read so down = let a = times-take_more m xs i x within read in omega arith

-- what is left of the count of the item just counted
rest-is : (first next : ℕ → ℕ) (xs : List ℕ) (i x : ℕ) → i < length xs → x ≡ get_or xs i 0 → times x xs ≤ first x → first x ≡ next x + times x (take (i + 1) xs) → (first x - times x xs) + times x (drop (i + 1) xs) ≡ next x
rest-is first next xs i x within read enough so =
    let a = times_split x xs i x within read in
    let b = times-take_more x xs i x within read in
    omega arith

pub lowering_given : (first now next : ℕ → ℕ) (xs given : List ℕ) (i x : ℕ) → ((m : ℕ) → times m xs ≤ first m) → i < length xs → x ≡ get_or xs i 0 → Lowering first now xs i given → ((m : ℕ) → now m ≡ next m + same m x) → next x ≡ 0 → Lowering first next xs (i + 1) (given ++ x ∷ [])
lowering_given first now next xs given i x enough within read so down none =
    let others : ℕ → ℕ = λ m. first m - times m xs in
    let counts : (m : ℕ) → first m ≡ next m + times m (take (i + 1) xs) = λ m. counts-more first now next xs i x m within read (so.counts m) (down m) in
    let rest = rest-is first next xs i x within read (enough x) (counts x) in
    let e = ap (freed others) (drop-read xs i x within read) ∙ freed-take others x (drop (i + 1) xs) (rest ∙ none) in
    record {
      counts = counts;
      chosen = append_assoc given (x ∷ []) (freed others (drop (i + 1) xs)) ∙ ap (λ l. given ++ l) (sym e) ∙ so.chosen;
      short = let n = length_push given x in let s = so.short in omega arith;
    }

pub lowering_kept : (first now next : ℕ → ℕ) (xs given : List ℕ) (i x : ℕ) → ((m : ℕ) → times m xs ≤ first m) → i < length xs → x ≡ get_or xs i 0 → Lowering first now xs i given → ((m : ℕ) → now m ≡ next m + same m x) → 0 < next x → Lowering first next xs (i + 1) given
lowering_kept first now next xs given i x enough within read so down some =
    let others : ℕ → ℕ = λ m. first m - times m xs in
    let counts : (m : ℕ) → first m ≡ next m + times m (take (i + 1) xs) = λ m. counts-more first now next xs i x m within read (so.counts m) (down m) in
    let rest = rest-is first next xs i x within read (enough x) (counts x) in
    let e = ap (freed others) (drop-read xs i x within read) ∙ freed-leave others x (drop (i + 1) xs) (omega arith) in
    record {
      counts = counts;
      chosen = ap (λ l. given ++ l) (sym e) ∙ so.chosen;
      short = let s = so.short in omega arith;
    }

-- all counted
pub record Lowered (first now : ℕ → ℕ) (xs given : List ℕ) : Type 0 where
  pub counts : (m : ℕ) → first m ≡ now m + times m xs
  pub chosen : IsChosen (λ m. now m ≡ 0) xs given

pub lowering_end : (first now : ℕ → ℕ) (xs given : List ℕ) (i : ℕ) → ((m : ℕ) → times m xs ≤ first m) → length xs ≤ i → Lowering first now xs i given → Lowered first now xs given
lowering_end first now xs given i enough done so =
    let others : ℕ → ℕ = λ m. first m - times m xs in
    let counts : (m : ℕ) → first m ≡ now m + times m xs = λ m. subst (λ l. first m ≡ now m + times m l) (take_all i xs done) (so.counts m) in
    let e : given ≡ freed others xs = sym (append-nil given) ∙ subst (λ l. given ++ freed others l ≡ freed others xs) (drop_all i xs done) so.chosen in
    record {
      counts = counts;
      chosen = subst (λ l. IsChosen (λ m. now m ≡ 0) xs l) (sym (e ∙ freed-same others now xs (λ m. let c = counts m in omega arith))) (freed_chosen now xs);
    }

-- fewer items have no more
pub times-take-le : (m : ℕ) (xs : List ℕ) (i n : ℕ) → i ≤ n → times m (take i xs) ≤ times m (take n xs)
times-take-le m xs zero n below = omega arith
times-take-le m [] (suc i) n below = omega arith
times-take-le m (x ∷ xs) (suc i) zero below = absurd (omega arith)
times-take-le m (x ∷ xs) (suc i) (suc n) below = omega (arith, times-take-le m xs i n (omega arith))
