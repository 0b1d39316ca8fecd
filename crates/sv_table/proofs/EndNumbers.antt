-- The ends of a table's intervals and their numbers.
use Rattle.std.proofs.Common.{◌≡◌, ℕ, zero, suc, ◌+◌, ◌<◌, ◌≤◌, Bool, true, cond, nat_lt, List, [], ◌∷◌, length, Some, None, refl, sym, ap, ◌∙◌, arith, inl, inr}
use Rattle.std.specs.Prelude.{slice_index, slice_get}
use Rattle.std.proofs.lemmas.Bool.{lt-ltb, ltb-true, le-ltb, cases_lt}
use Rattle.std.proofs.lemmas.List.{length-append}
use Rattle.std.proofs.lemmas.List.Sums.{count_by-le-length, sum_by-cons}
use Rattle.std.proofs.lemmas.Option.{get_or_from_slice_get, slice_get-get_or}
use Rattle.sv_model.specs.Flat.{ends_of, CutsFrom}
use Rattle.sv_model.specs.Lists.{In}
use Rattle.sv_model.specs.TableText.{end_number}

abbrev pub end_of : List ℕ → ℕ → ℕ → ℕ
end_of cuts to n = slice_index (ends_of cuts to) n

count_yes : (end x : ℕ) (xs : List ℕ) → x < end → end_number (x ∷ xs) end ≡ suc (end_number xs end)
count_yes end x xs lt =
    let one : cond (nat_lt x end) 1 0 ≡ 1 = ap (λ (b : Bool). cond b 1 0) (lt-ltb x end lt) in
    sum_by-cons (λ (c : ℕ). cond (nat_lt c end) 1 0) x xs ∙ ap (λ (n : ℕ). n + end_number xs end) one ∙ omega arith

count_no : (end x : ℕ) (xs : List ℕ) → end ≤ x → end_number (x ∷ xs) end ≡ end_number xs end
count_no end x xs le =
    let none : cond (nat_lt x end) 1 0 ≡ 0 = ap (λ (b : Bool). cond b 1 0) (le-ltb x end le) in
    sum_by-cons (λ (c : ℕ). cond (nat_lt c end) 1 0) x xs ∙ ap (λ (n : ℕ). n + end_number xs end) none ∙ omega arith

none_below : (low to end : ℕ) (cuts : List ℕ) → CutsFrom low cuts to → end ≤ suc low → end_number cuts end ≡ 0
none_below low to end [] f le = refl
none_below low to end (c ∷ cuts) f le = count_no end c cuts (omega (arith, f.0)) ∙ none_below c to end cuts f.2 (omega (arith, f.0))

-- each end is above what the cuts are above
above : (low to : ℕ) (cuts : List ℕ) (n : ℕ) → CutsFrom low cuts to → low < to → n ≤ length cuts → low < end_of cuts to n
above low to [] zero f lt le = lt
above low to [] (suc n) f lt le = absurd (omega arith)
above low to (c ∷ cuts) zero f lt le = omega (arith, f.0)
above low to (c ∷ cuts) (suc n) f lt le =
    let more = above c to cuts n f.2 (omega (arith, f.1)) (omega arith) in omega (arith, f.0, more)

-- the ends rise
rises : (low to : ℕ) (cuts : List ℕ) (n m : ℕ) → CutsFrom low cuts to → n < m → m ≤ length cuts → end_of cuts to n < end_of cuts to m
rises low to [] n m f lt le = absurd (omega arith)
rises low to (c ∷ cuts) n zero f lt le = absurd (omega arith)
rises low to (c ∷ cuts) zero (suc m) f lt le = above c to cuts m f.2 (omega (arith, f.1)) (omega arith)
rises low to (c ∷ cuts) (suc n) (suc m) f lt le = rises c to cuts n m f.2 (omega arith) (omega arith)

pub end_back : (low to : ℕ) (cuts : List ℕ) (n : ℕ) → CutsFrom low cuts to → n ≤ length cuts → end_number cuts (end_of cuts to n) ≡ n
end_back low to [] zero f le = refl
end_back low to [] (suc n) f le = absurd (omega arith)
end_back low to (c ∷ cuts) zero f le = count_no c c cuts (omega arith) ∙ none_below c to c cuts f.2 (omega arith)
end_back low to (c ∷ cuts) (suc n) f le =
    count_yes (end_of cuts to n) c cuts (above c to cuts n f.2 (omega (arith, f.1)) (omega arith)) ∙ ap suc (end_back c to cuts n f.2 (omega arith))

pub number_least : (cuts : List ℕ) (end : ℕ) → end_number cuts end ≤ length cuts
number_least cuts end = count_by-le-length (λ c. nat_lt c end) cuts

below_length : (xs : List ℕ) (i : ℕ) (x : ℕ) → slice_get xs i ≡ Some x → i < length xs
below_length [] i x e = let clash : None ≡ Some x = e in absurd (cc clash)
below_length (y ∷ xs) zero x e = omega arith
below_length (y ∷ xs) (suc i) x e = let more = below_length xs i x e in omega arith

-- an end is that of its number
pub number_back : (low to : ℕ) (cuts : List ℕ) (end : ℕ) → CutsFrom low cuts to → In end (ends_of cuts to) → end_of cuts to (end_number cuts end) ≡ end
number_back low to cuts end f i =
    let is : end_of cuts to i.at ≡ end = get_or_from_slice_get (ends_of cuts to) i.at end 0 i.is in
    let lt = below_length (ends_of cuts to) i.at end i.is in
    let le : i.at ≤ length cuts = omega (arith, lt, length-append cuts (to ∷ [])) in
    let same : end_number cuts end ≡ i.at = ap (end_number cuts) (sym is) ∙ end_back low to cuts i.at f le in
    ap (end_of cuts to) same ∙ is

pub end_in : (to : ℕ) (cuts : List ℕ) (n : ℕ) → n ≤ length cuts → In (end_of cuts to n) (ends_of cuts to)
end_in to cuts n le = record { at = n; is = slice_get-get_or (ends_of cuts to) n 0 (omega (arith, length-append cuts (to ∷ []))) }

pub end_rises : (low to : ℕ) (cuts : List ℕ) (n m : ℕ) → CutsFrom low cuts to → m ≤ length cuts → nat_lt n m ≡ true → nat_lt (end_of cuts to n) (end_of cuts to m) ≡ true
end_rises low to cuts n m f le e = lt-ltb (end_of cuts to n) (end_of cuts to m) (rises low to cuts n m f (ltb-true n m e) le)

pub number_rises : (low to : ℕ) (cuts : List ℕ) (a b : ℕ) → CutsFrom low cuts to → In a (ends_of cuts to) → In b (ends_of cuts to) → nat_lt a b ≡ true → nat_lt (end_number cuts a) (end_number cuts b) ≡ true
number_rises low to cuts a b f i j e =
    let p = number_back low to cuts a f i in
    let q = number_back low to cuts b f j in
    let lt : a < b = ltb-true a b e in
    elim (cases_lt (end_number cuts a) (end_number cuts b)) [
      | inl less ↦ lt-ltb (end_number cuts a) (end_number cuts b) less
      | inr le ↦
          elim (cases_lt (end_number cuts b) (end_number cuts a)) [
            | inl more ↦
                let back = rises low to cuts (end_number cuts b) (end_number cuts a) f more (number_least cuts a) in
                absurd (omega (arith, back, p, q))
            | inr equal ↦
                let same : end_number cuts a ≡ end_number cuts b = omega arith in
                absurd (omega (arith, sym p ∙ ap (end_of cuts to) same ∙ q))
          ]
    ]
