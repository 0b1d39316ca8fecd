-- Lists of bytes are ordered as the numbers that their first bytes spell.
use Rattle.std.proofs.Common.{◌≡◌, ℕ, zero, suc, ◌+◌, ◌-◌, ◌*◌, ◌<◌, ◌≤◌, min, List, [], ◌∷◌, ◌++◌, length, take, drop, get_or, refl, sym, ap, subst, ◌∙◌, length-drop, length-take-le, take-append-drop, take-take, append-nil, drop-cons, arith}
use Rattle.std.specs.declared.cmp.Ordering.{Ordering}
use Rattle.std.specs.declared.cmp.Ordering.TheVariants.{Less, Equal, Greater}
use Rattle.std.specs.Ordering.{nat_cmp, is_eq, ordering_then}
use Rattle.std.specs.Cmp.Lexicographic.{slice_cmp}
use Rattle.std.proofs.lemmas.Cmp.{by_ranked, ranked}
use Rattle.sv_model.proofs.KeyOrder.{same_eq}
use Rattle.sv_table.specs.Words.{spelled}
use Rattle.sv_table.proofs.OneField.{IsBytes, bytes_rest, bytes_text}

abbrev pub order : List ℕ → List ℕ → Ordering
order a b = slice_cmp nat_cmp a b

-- ---- numbers

less : (x y : ℕ) → x < y → nat_cmp x y ≡ Less
less x y l = by_ranked (x < y) (x ≡ y) (y < x) (nat_cmp x y) (ranked x y (nat_cmp x y) refl) (λ e p. e) (λ e p. absurd (omega (arith, p, l)))
    (λ e p. absurd (omega (arith, p, l)))

greater : (x y : ℕ) → y < x → nat_cmp x y ≡ Greater
greater x y l = by_ranked (x < y) (x ≡ y) (y < x) (nat_cmp x y) (ranked x y (nat_cmp x y) refl) (λ e p. absurd (omega (arith, p, l)))
    (λ e p. absurd (omega (arith, p, l))) (λ e p. e)

equal : (x y : ℕ) → x ≡ y → nat_cmp x y ≡ Equal
equal x y q = by_ranked (x < y) (x ≡ y) (y < x) (nat_cmp x y) (ranked x y (nat_cmp x y) refl) (λ e p. absurd (omega (arith, p, q))) (λ e p. e)
    (λ e p. absurd (omega (arith, p, q)))

-- numbers that differ decide
apart : (x y : ℕ) (later : Ordering) → (x ≡ y → ⊥) → nat_cmp x y ≡ ordering_then (nat_cmp x y) later
apart x y later n = by_ranked (x < y) (x ≡ y) (y < x) (nat_cmp x y) (ranked x y (nat_cmp x y) refl)
    (λ e p. e ∙ sym (ap (λ (o : Ordering). ordering_then o later) e)) (λ e p. absurd (n p))
    (λ e p. e ∙ sym (ap (λ (o : Ordering). ordering_then o later) e))

lowered : (x y n : ℕ) → n ≤ x → n ≤ y → nat_cmp (x - n) (y - n) ≡ nat_cmp x y
lowered x y n p q = by_ranked (x < y) (x ≡ y) (y < x) (nat_cmp x y) (ranked x y (nat_cmp x y) refl)
    (λ e l. less (x - n) (y - n) (omega (arith, l, p, q)) ∙ sym e)
    (λ e l. equal (x - n) (y - n) (omega (arith, l, p, q)) ∙ sym e)
    (λ e l. greater (x - n) (y - n) (omega (arith, l, p, q)) ∙ sym e)

-- ---- words

rises : (a b : ℕ) (us vs : List ℕ) → length us ≡ length vs → IsBytes us → a < b → spelled a us < spelled b vs
rises a b [] [] e h l = l
rises a b [] (v ∷ vs) e h l = absurd (omega (arith, e))
rises a b (u ∷ us) [] e h l = absurd (omega (arith, e))
rises a b (u ∷ us) (v ∷ vs) e h l =
    let small : u < 256 = h 0 in
    rises (a * 256 + u) (b * 256 + v) us vs (omega (arith, e)) (λ k. h (suc k)) (omega (arith, small, l))

-- words of the same length come first
pub word_first : (a : ℕ) (us vs xs ys : List ℕ) → length us ≡ length vs → IsBytes us → IsBytes vs
    → order (us ++ xs) (vs ++ ys) ≡ ordering_then (nat_cmp (spelled a us) (spelled a vs)) (order xs ys)
word_first a [] [] xs ys e g h = sym (ap (λ (o : Ordering). ordering_then o (order xs ys)) (equal a a refl))
word_first a [] (v ∷ vs) xs ys e g h = absurd (omega (arith, e))
word_first a (u ∷ us) [] xs ys e g h = absurd (omega (arith, e))
word_first a (u ∷ us) (v ∷ vs) xs ys e g h =
    let su : u < 256 = g 0 in
    let sv : v < 256 = h 0 in
    let long : length us ≡ length vs = omega (arith, e) in
    let x = spelled (a * 256 + u) us in
    let y = spelled (a * 256 + v) vs in
    by_ranked (u < v) (u ≡ v) (v < u) (nat_cmp u v) (ranked u v (nat_cmp u v) refl)
    (λ is l.
    ap (λ (o : Ordering). ordering_then o (order (us ++ xs) (vs ++ ys))) is
    ∙ sym (ap (λ (o : Ordering). ordering_then o (order xs ys))
    (less x y (rises (a * 256 + u) (a * 256 + v) us vs long (λ k. g (suc k)) (omega (arith, l))))))
    (λ is l.
    ap (λ (o : Ordering). ordering_then o (order (us ++ xs) (vs ++ ys))) is
    ∙ word_first (a * 256 + u) us vs xs ys long (λ k. g (suc k)) (λ k. h (suc k))
    ∙ ap (λ (z : ℕ). ordering_then (nat_cmp x (spelled (a * 256 + z) vs)) (order xs ys)) l)
    (λ is l.
    ap (λ (o : Ordering). ordering_then o (order (us ++ xs) (vs ++ ys))) is
    ∙ sym (ap (λ (o : Ordering). ordering_then o (order xs ys))
    (greater x y (rises (a * 256 + v) (a * 256 + u) vs us (sym long) (λ k. h (suc k)) (omega (arith, l))))))

same_first : (us xs ys : List ℕ) → order (us ++ xs) (us ++ ys) ≡ order xs ys
same_first [] xs ys = refl
same_first (u ∷ us) xs ys =
    ap (λ (o : Ordering). ordering_then o (order (us ++ xs) (us ++ ys))) (equal u u refl) ∙ same_first us xs ys

-- where one has ended
ended : (xs ys : List ℕ) (n : ℕ) → n ≡ min (length xs) (length ys) → n ≡ 0 → order xs ys ≡ nat_cmp (length xs) (length ys)
ended [] [] n e z = sym (equal 0 0 refl)
ended [] (y ∷ ys) n e z = sym (less 0 (length (y ∷ ys)) (omega arith))
ended (x ∷ xs) [] n e z = sym (greater (length (x ∷ xs)) 0 (omega arith))
ended (x ∷ xs) (y ∷ ys) n e z = absurd (omega (arith, e, z))

-- ---- two words of m bytes, the second of which ends with the first n bytes

front_fits : (m : ℕ) (l : List ℕ) → IsBytes l → IsBytes (take m l)
front_fits m l fits = bytes_text (take m l) (drop m l) (subst IsBytes (sym (take-append-drop m l)) fits)

rest_fits : (m : ℕ) (l : List ℕ) → IsBytes l → IsBytes (drop m l)
rest_fits m l fits = bytes_rest (take m l) (drop m l) (subst IsBytes (sym (take-append-drop m l)) fits)

module _ (m : ℕ) (a b : List ℕ) (fits_a : IsBytes a) (fits_b : IsBytes b) (long_a : m ≤ length a) (long_b : m ≤ length b)
    (x y : ℕ) (is_x : x ≡ spelled 0 (take m a)) (is_y : y ≡ spelled 0 (take m b)) where
  fronts_long : length (take m a) ≡ length (take m b)
  fronts_long = length-take-le m a long_a ∙ sym (length-take-le m b long_b)

  then_rest : order a b ≡ ordering_then (nat_cmp x y) (order (drop m a) (drop m b))
  then_rest =
      (λ i. order (sym (take-append-drop m a) i) (sym (take-append-drop m b) i))
      ∙ word_first 0 (take m a) (take m b) (drop m a) (drop m b) fronts_long (front_fits m a fits_a) (front_fits m b fits_b)
      ∙ (λ i. ordering_then (nat_cmp (sym is_x i) (sym is_y i)) (order (drop m a) (drop m b)))

  -- the words differ
  pub by_word : (x ≡ y → ⊥) → nat_cmp x y ≡ order a b
  by_word n = apart x y (order (drop m a) (drop m b)) n ∙ sym then_rest

  -- they are the same
  pub alike : x ≡ y → take m a ≡ take m b
  alike e =
      let tied : order (take m a ++ []) (take m b ++ []) ≡ Equal =
      word_first 0 (take m a) (take m b) [] [] fronts_long (front_fits m a fits_a) (front_fits m b fits_b)
      ∙ ap (λ (o : Ordering). ordering_then o Equal)
      (equal (spelled 0 (take m a)) (spelled 0 (take m b)) (sym is_x ∙ e ∙ is_y)) in
      sym (append-nil (take m a)) ∙ same_eq (take m a ++ []) (take m b ++ []) (ap is_eq tied) ∙ append-nil (take m b)

  pub past : x ≡ y → order a b ≡ order (drop m a) (drop m b)
  past e = then_rest ∙ ap (λ (o : Ordering). ordering_then o (order (drop m a) (drop m b))) (equal x y e)

-- after a front that is the same
after_same : (k : ℕ) (a b : List ℕ) → take k a ≡ take k b → order a b ≡ order (drop k a) (drop k b)
after_same k a b e =
    (λ i. order (sym (take-append-drop k a) i) (sym (take-append-drop k b) i))
    ∙ ap (λ (l : List ℕ). order (l ++ drop k a) (take k b ++ drop k b)) e
    ∙ same_first (take k b) (drop k a) (drop k b)

module _ (m n : ℕ) (a b : List ℕ) (fits_a : IsBytes a) (fits_b : IsBytes b) (low : m ≤ n) (high : n ≤ m + m)
    (long_a : n ≤ length a) (long_b : n ≤ length b)
    (x y : ℕ) (is_x : x ≡ spelled 0 (take m (drop 0 a))) (is_y : y ≡ spelled 0 (take m (drop 0 b))) where
  abbrev at : ℕ
  at = n - m

  pub first_decides : (x ≡ y → ⊥) → nat_cmp x y ≡ order a b
  first_decides = by_word m a b fits_a fits_b (omega (arith, low, long_a)) (omega (arith, low, long_b)) x y is_x is_y

  module _ (same : x ≡ y) (z w : ℕ) (is_z : z ≡ spelled 0 (take m (drop (n - m) a)))
      (is_w : w ≡ spelled 0 (take m (drop (n - m) b))) where
    fronts_same : take at a ≡ take at b
    fronts_same =
        let le : at ≤ m = omega (arith, low, high) in
        sym (take-take at m a le)
        ∙ ap (take at) (alike m a b fits_a fits_b (omega (arith, low, long_a)) (omega (arith, low, long_b)) x y is_x is_y same)
        ∙ take-take at m b le

    long_rest_a : m ≤ length (drop at a)
    long_rest_a = omega (arith, low, long_a, length-drop at a)

    long_rest_b : m ≤ length (drop at b)
    long_rest_b = omega (arith, low, long_b, length-drop at b)

    pub second_decides : (z ≡ w → ⊥) → nat_cmp z w ≡ order a b
    second_decides apart =
        by_word m (drop at a) (drop at b) (rest_fits at a fits_a) (rest_fits at b fits_b) long_rest_a long_rest_b z w is_z is_w apart
        ∙ sym (after_same at a b fronts_same)

    pub lengths_decide : n ≡ min (length a) (length b) → z ≡ w → nat_cmp (length a) (length b) ≡ order a b
    lengths_decide all e =
        let ra = drop m (drop at a) in
        let rb = drop m (drop at b) in
        let la : length ra ≡ length a - n = omega (arith, low, long_a, length-drop at a, length-drop m (drop at a)) in
        let lb : length rb ≡ length b - n = omega (arith, low, long_b, length-drop at b, length-drop m (drop at b)) in
        sym (
        after_same at a b fronts_same
        ∙ past m (drop at a) (drop at b) (rest_fits at a fits_a) (rest_fits at b fits_b) long_rest_a long_rest_b z w is_z is_w e
        ∙ ended ra rb (min (length ra) (length rb)) refl (omega (arith, la, lb, all))
        ∙ (λ i. nat_cmp (la i) (lb i))
        ∙ lowered (length a) (length b) n long_a long_b)

-- ---- bytes as they are read

abbrev reads : List ℕ → ℕ → ℕ → ℕ → List ℕ
reads l i k zero = []
reads l i k (suc n) = get_or l (i + k) 0 ∷ reads l i (suc k) n

read_out : (n : ℕ) (l : List ℕ) (i k : ℕ) → i + k + n ≤ length l → take n (drop (i + k) l) ≡ reads l i k n
read_out zero l i k le = refl
read_out (suc n) l i k le =
    let next : suc (i + k) ≡ i + suc k = omega arith in
    ap (take (suc n)) (drop-cons l (i + k) 0 (omega (arith, le)))
    ∙ ap (λ r. get_or l (i + k) 0 ∷ r) (ap (λ j. take n (drop j l)) next ∙ read_out n l i (suc k) (omega (arith, le)))

spelt : (l : List ℕ) (i n : ℕ) → i + n ≤ length l → spelled 0 (take n (drop i l)) ≡ spelled 0 (reads l i 0 n)
spelt l i n le =
    let e : i ≡ i + 0 = omega arith in
    ap (spelled 0) (ap (λ j. take n (drop j l)) e ∙ read_out n l i 0 (omega (arith, le)))

here : (l : List ℕ) (i : ℕ) → get_or l (i + 0) 0 ≡ get_or l i 0
here l i = ap (λ k. get_or l k 0) (omega arith)

pub four_are : (l : List ℕ) (i : ℕ) → i + 4 ≤ length l
    → get_or l i 0 * 16777216 + get_or l (i + 1) 0 * 65536 + get_or l (i + 2) 0 * 256 + get_or l (i + 3) 0
    ≡ spelled 0 (take 4 (drop i l))
four_are l i le = omega (arith, here l i) ∙ sym (spelt l i 4 le)

pub eight_are : (l : List ℕ) (i : ℕ) → i + 8 ≤ length l
    → get_or l i 0 * 72057594037927936 + get_or l (i + 1) 0 * 281474976710656 + get_or l (i + 2) 0 * 1099511627776
    + get_or l (i + 3) 0 * 4294967296 + get_or l (i + 4) 0 * 16777216 + get_or l (i + 5) 0 * 65536
    + get_or l (i + 6) 0 * 256 + get_or l (i + 7) 0
    ≡ spelled 0 (take 8 (drop i l))
eight_are l i le = omega (arith, here l i) ∙ sym (spelt l i 8 le)
