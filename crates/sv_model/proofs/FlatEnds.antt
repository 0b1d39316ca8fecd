-- The ends of a range's intervals, and the end under which a write comes to lie.
use Rattle.std.proofs.Common.{◌≡◌, ℕ, suc, zero, ◌<◌, ◌≤◌, ◌⊎◌, inl, inr, Bool, true, false, cond, nat_le, List, [], ◌∷◌, ◌++◌, reverse, Some, slice_get, refl, sym, ap, subst, ◌∙◌, arith}
use Rattle.std.specs.Option.{unwrap_or}
use Rattle.std.specs.List.{find, AllByRecursion}
use Rattle.std.proofs.lemmas.Bool.{leb-true, leb-false, le-leb, lt-leb, cases_Bool}
use Rattle.std.proofs.lemmas.List.{reverse-append}
use Rattle.sv_model.specs.Lists.{In}
use Rattle.sv_model.specs.Flat.{ends_of, end_at, end_among, CutsFrom, IsClearIn}

-- ---- what stands among numbers

abbrev pub Among : ℕ → List ℕ → Type 0
Among e [] = ⊥
Among e (d ∷ ds) = (e ≡ d) ⊎ Among e ds

among_at : (e : ℕ) (ds : List ℕ) (at : ℕ) → slice_get ds at ≡ Some e → Among e ds
among_at e [] at is = absurd (cc is)
among_at e (d ∷ ds) zero is = let h : d ≡ e = cc in inl (sym h)
among_at e (d ∷ ds) (suc at) is = inr (among_at e ds at is)

pub among_in : (e : ℕ) (ds : List ℕ) → In e ds → Among e ds
among_in e ds there = among_at e ds there.at there.is

pub in_among : (e : ℕ) (ds : List ℕ) → Among e ds → In e ds
in_among e [] there = absurd there
in_among e (d ∷ ds) there = elim there [
  | inl here ↦ record { at = 0; is = ap Some (sym here) }
  | inr later ↦ let h = in_among e ds later in record { at = suc h.at; is = h.is }
]

pub among_left : (e : ℕ) (xs ys : List ℕ) → Among e xs → Among e (xs ++ ys)
among_left e [] ys there = absurd there
among_left e (x ∷ xs) ys there = elim there [
  | inl here ↦ inl here
  | inr later ↦ inr (among_left e xs ys later)
]

pub among_right : (e : ℕ) (xs ys : List ℕ) → Among e ys → Among e (xs ++ ys)
among_right e [] ys there = there
among_right e (x ∷ xs) ys there = inr (among_right e xs ys there)

pub among_parts : (e : ℕ) (xs ys : List ℕ) → Among e (xs ++ ys) → Among e xs ⊎ Among e ys
among_parts e [] ys there = inr there
among_parts e (x ∷ xs) ys there = elim there [
  | inl here ↦ inl (inl here)
  | inr later ↦ elim (among_parts e xs ys later) [ inl left ↦ inl (inr left) | inr right ↦ inr right ]
]

pub among_turned : (e : ℕ) (ds : List ℕ) → Among e ds → Among e (reverse ds)
among_turned e [] there = absurd there
among_turned e (d ∷ ds) there =
    subst (λ (l : List ℕ). Among e l) (sym (reverse-append (d ∷ []) ds)) (elim there [
      | inl here ↦ among_right e (reverse ds) (d ∷ []) (inl here)
      | inr later ↦ among_left e (reverse ds) (d ∷ []) (among_turned e ds later)
    ])

-- ---- numbers that ascend

abbrev pub AscendFrom : ℕ → List ℕ → Type 0
AscendFrom low [] = Unit {0}
AscendFrom low (d ∷ ds) = (low < d) × AscendFrom d ds

pub above_low : (low : ℕ) (ds : List ℕ) (e : ℕ) → AscendFrom low ds → Among e ds → low < e
above_low low [] e up there = absurd there
above_low low (d ∷ ds) e up there = elim there [
  | inl here ↦ omega (arith, here, up.0)
  | inr later ↦ omega (arith, up.0, above_low d ds e up.1 later)
]

ascend_lower : (low high : ℕ) (ds : List ℕ) → low ≤ high → AscendFrom high ds → AscendFrom low ds
ascend_lower low high [] le up = tt
ascend_lower low high (d ∷ ds) le up = (omega (arith, up.0), up.1)

pub ends_ascend : (low to : ℕ) (cuts : List ℕ) → low < to → CutsFrom low cuts to → AscendFrom low (ends_of cuts to)
ends_ascend low to [] lt are = (lt, tt)
ends_ascend low to (cut ∷ cuts) lt are = (are.0, ends_ascend cut to cuts are.1 are.2)

pub to_among : (cuts : List ℕ) (to : ℕ) → Among to (ends_of cuts to)
to_among cuts to = among_right to cuts (to ∷ []) (inl refl)

-- an end is at most the last
pub end_most : (low to : ℕ) (cuts : List ℕ) (e : ℕ) → CutsFrom low cuts to → Among e (ends_of cuts to) → e ≤ to
end_most low to [] e are there = elim there [ inl here ↦ omega (arith, here) | inr later ↦ absurd later ]
end_most low to (cut ∷ cuts) e are there = elim there [
  | inl here ↦ omega (arith, here, are.1)
  | inr later ↦ end_most cut to cuts e are.2 later
]

-- ---- numbers that descend

abbrev pub DescendFrom : ℕ → List ℕ → Type 0
DescendFrom high [] = Unit {0}
DescendFrom high (d ∷ ds) = (d < high) × DescendFrom d ds

descend_push : (high c : ℕ) (ds : List ℕ) → DescendFrom high ds → AllByRecursion (λ d. c < d) ds → c < high
    → DescendFrom high (ds ++ c ∷ [])
descend_push high c [] down above lt = (lt, tt)
descend_push high c (d ∷ ds) down above lt = (down.0, descend_push d c ds down.1 above.1 above.0)

all_above : (c low : ℕ) (ds : List ℕ) → c ≤ low → AscendFrom low ds → AllByRecursion (λ d. c < d) ds
all_above c low [] le up = tt
all_above c low (d ∷ ds) le up = (omega (arith, up.0), all_above c d ds (omega (arith, up.0)) up.1)

all_push : (P : ℕ → Type 0) (ds : List ℕ) (c : ℕ) → AllByRecursion P ds → P c → AllByRecursion P (ds ++ c ∷ [])
all_push P [] c all here = (here, tt)
all_push P (d ∷ ds) c all here = (all.0, all_push P ds c all.1 here)

pub all_turned : (P : ℕ → Type 0) (ds : List ℕ) → AllByRecursion P ds → AllByRecursion P (reverse ds)
all_turned P [] all = tt
all_turned P (d ∷ ds) all =
    subst (AllByRecursion P) (sym (reverse-append (d ∷ []) ds)) (all_push P (reverse ds) d (all_turned P ds all.1) all.0)

pub turned_down : (high low : ℕ) (ds : List ℕ) → AscendFrom low ds → AllByRecursion (λ d. d < high) ds
    → DescendFrom high (reverse ds)
turned_down high low [] up under = tt
turned_down high low (d ∷ ds) up under =
    subst (DescendFrom high) (sym (reverse-append (d ∷ []) ds))
    (descend_push high d (reverse ds) (turned_down high d ds up.1 under.1) (all_turned (λ e. d < e) ds (all_above d d ds (omega arith) up.1)) under.0)

pub ends_under : (low to : ℕ) (cuts : List ℕ) → CutsFrom low cuts to
    → AllByRecursion (λ d. d < suc to) (ends_of cuts to)
ends_under low to [] are = (omega arith, tt)
ends_under low to (cut ∷ cuts) are = (omega (arith, are.1), ends_under cut to cuts are.2)

-- ---- the end of a number

pub at_first : (n e : ℕ) (ends : List ℕ) → nat_le n e ≡ true → end_at (e ∷ ends) n ≡ e
at_first n e ends h = ap (λ (b : Bool). unwrap_or (cond b (Some e) (find (λ d. nat_le n d) ends)) 0) h

at_later : (n e : ℕ) (ends : List ℕ) → nat_le n e ≡ false → end_at (e ∷ ends) n ≡ end_at ends n
at_later n e ends h = ap (λ (b : Bool). unwrap_or (cond b (Some e) (find (λ d. nat_le n d) ends)) 0) h

-- the end of a number that does not pass all ends is one of them, and not below the number
pub end_is : (ends : List ℕ) (n c : ℕ) → Among c ends → n ≤ c → Among (end_at ends n) ends × (n ≤ end_at ends n)
end_is [] n c there le = absurd there
end_is (e ∷ ends) n c there le = elim (cases_Bool (nat_le n e)) [
  | inl h ↦ let is = at_first n e ends h in let low = leb-true n e h in (inl is, omega (arith, is, low))
  | inr h ↦
      let is = at_later n e ends h in
      let high = leb-false n e h in
      elim there [
        | inl here ↦ absurd (omega (arith, here, high))
        | inr later ↦ let r = end_is ends n c later le in (inr (subst (λ (k : ℕ). Among k ends) (sym is) r.0), omega (arith, is, r.1))
      ]
]

-- it is the least of the ends that are not below the number
pub end_least : (low : ℕ) (ends : List ℕ) (n c : ℕ) → AscendFrom low ends → Among c ends → n ≤ c → end_at ends n ≤ c
end_least low [] n c up there le = absurd there
end_least low (e ∷ ends) n c up there le = elim (cases_Bool (nat_le n e)) [
  | inl h ↦
      let is = at_first n e ends h in
      elim there [
        | inl here ↦ omega (arith, is, here)
        | inr later ↦ omega (arith, is, above_low e ends c up.1 later)
      ]
  | inr h ↦
      let is = at_later n e ends h in
      let high = leb-false n e h in
      elim there [
        | inl here ↦ absurd (omega (arith, here, high))
        | inr later ↦ omega (arith, is, end_least e ends n c up.1 later le)
      ]
]

-- the end of a greater number is not smaller
pub end_rises : (low : ℕ) (ends : List ℕ) (n m c : ℕ) → AscendFrom low ends → Among c ends → n ≤ m → m ≤ c
    → end_at ends n ≤ end_at ends m
end_rises low ends n m c up there le most =
    let r = end_is ends m c there most in end_least low ends n (end_at ends m) up r.0 (omega (arith, r.1))

-- the first cut that a number does not pass, else the last write, is its end
pub among_is : (cuts : List ℕ) (to n : ℕ) → n ≤ to → end_among cuts to n ≡ end_at (ends_of cuts to) n
among_is [] to n le = sym (at_first n to [] (le-leb n to le))
among_is (cut ∷ cuts) to n le = elim (cases_Bool (nat_le n cut)) [
  | inl h ↦ ap (λ (b : Bool). unwrap_or (cond b (Some cut) (find (λ d. nat_le n d) cuts)) to) h ∙ sym (at_first n cut (ends_of cuts to) h)
  | inr h ↦ ap (λ (b : Bool). unwrap_or (cond b (Some cut) (find (λ d. nat_le n d) cuts)) to) h ∙ among_is cuts to n le ∙ sym (at_later n cut (ends_of cuts to) h)
]

-- ---- a range with its cuts

module _ (from to : ℕ) (cuts : List ℕ) (are : CutsFrom from cuts to) where
  pub range_end_is : (n : ℕ) → n ≤ to
      → Among (end_at (ends_of cuts to) n) (ends_of cuts to) × (n ≤ end_at (ends_of cuts to) n)
  range_end_is n le = end_is (ends_of cuts to) n to (to_among cuts to) le

  pub range_end_most : (n : ℕ) → n ≤ to → end_at (ends_of cuts to) n ≤ to
  range_end_most n le = end_most from to cuts (end_at (ends_of cuts to) n) are (range_end_is n le).0

  pub range_end_least : (n c : ℕ) → from < n → n ≤ to → In c cuts → n ≤ c → end_at (ends_of cuts to) n ≤ c
  range_end_least n c more most there le =
      end_least from (ends_of cuts to) n c (ends_ascend from to cuts (omega arith) are) (among_left c cuts (to ∷ []) (among_in c cuts there)) le

  pub range_end_rises : (n m : ℕ) → from < to → n ≤ m → m ≤ to → end_at (ends_of cuts to) n ≤ end_at (ends_of cuts to) m
  range_end_rises n m lt le most =
      end_rises from (ends_of cuts to) n m to (ends_ascend from to cuts lt are) (to_among cuts to) le most

  -- a write is within a cut exactly where its end is
  pub clear_le : (cut n : ℕ) → IsClearIn from to cuts cut → from < n → n ≤ to → n ≤ cut
      → end_at (ends_of cuts to) n ≤ cut
  clear_le cut n clear more most le = elim clear [
    | inl one ↦ range_end_least n cut more most one le
    | inr out ↦ elim out [
      | inl after ↦ omega (arith, range_end_most n most)
      | inr before ↦ absurd (omega arith)
    ]
  ]

  pub clear_same : (cut n : ℕ) → IsClearIn from to cuts cut → from < n → n ≤ to
      → nat_le (end_at (ends_of cuts to) n) cut ≡ nat_le n cut
  clear_same cut n clear more most = elim (cases_Bool (nat_le n cut)) [
    | inl h ↦ le-leb (end_at (ends_of cuts to) n) cut (clear_le cut n clear more most (leb-true n cut h)) ∙ sym h
    | inr h ↦ lt-leb (end_at (ends_of cuts to) n) cut (let below = leb-false n cut h in omega (arith, (range_end_is n most).1)) ∙ sym h
  ]
