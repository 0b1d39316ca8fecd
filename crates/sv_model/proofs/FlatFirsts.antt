-- Of a key's writes, the newest first, each under its interval's end, the newest of each interval are the first of each
-- end.
use Rattle.std.proofs.Common.{◌≡◌, ℕ, suc, ◌<◌, ◌≤◌, ◌+◌, inl, inr, Bool, true, false, cond, ◌&&◌, eqb, List, [], ◌∷◌, ◌++◌, length, map, reverse, Option, Some, None, refl, sym, ap, subst, ◌∙◌, arith}
use Rattle.std.specs.Option.{option_map}
use Rattle.std.specs.List.{find, filter, filter_map, cons_option, AllByRecursion}
use Rattle.std.proofs.lemmas.Bool.{cases_Bool, eqb-true, eqb-false, eq-eqb, ne_eqb}
use Rattle.std.proofs.lemmas.List.{reverse-append}
use Rattle.sv_model.specs.declared.writes.Row.{Row}
use Rattle.sv_model.specs.declared.writes.Kept.{Kept}
use Rattle.sv_model.specs.declared.writes.Numbered.{Numbered}
use Rattle.sv_model.specs.Journal.{same_key}
use Rattle.sv_model.specs.Flat.{numbered_after, ends_of, end_at, newest_each, CutsFrom}
use Rattle.sv_model.proofs.FlatEnds.{Among, among_turned, DescendFrom, turned_down, ends_ascend, ends_under, range_end_is, range_end_most, range_end_rises}

-- ---- the first of each end

abbrev pub is_last : Option ℕ → ℕ → Bool
is_last None e = false
is_last (Some last) e = eqb e last

-- without the rows that bear the end of the row before
abbrev pub firsts : Option ℕ → List Kept → List Kept
firsts last [] = []
firsts last (r ∷ rows) = cond (is_last last r.end) (firsts last rows) (r ∷ firsts (Some r.end) rows)

-- no end is above the one before, nor the first above this
abbrev pub FallFrom : ℕ → List Kept → Type 0
FallFrom high [] = Unit {0}
FallFrom high (r ∷ rows) = (r.end ≤ high) × FallFrom r.end rows

abbrev pub EndsAmong : List ℕ → List Kept → Type 0
EndsAmong ds rows = AllByRecursion (λ r. Among r.end ds) rows

-- the first row of each of these ends
abbrev pub each_of : List ℕ → List Kept → List Kept
each_of ds rows = filter_map (λ e. find (λ r. eqb r.end e) rows) ds

firsts_again : (last : ℕ) (r : Kept) (rows : List Kept) → eqb r.end last ≡ true
    → firsts (Some last) (r ∷ rows) ≡ firsts (Some last) rows
firsts_again last r rows e = ap (λ (b : Bool). cond b (firsts (Some last) rows) (r ∷ firsts (Some r.end) rows)) e

firsts_next : (last : ℕ) (r : Kept) (rows : List Kept) → eqb r.end last ≡ false
    → firsts (Some last) (r ∷ rows) ≡ r ∷ firsts (Some r.end) rows
firsts_next last r rows e = ap (λ (b : Bool). cond b (firsts (Some last) rows) (r ∷ firsts (Some r.end) rows)) e

descend_higher : (low high : ℕ) (ds : List ℕ) → low ≤ high → DescendFrom low ds → DescendFrom high ds
descend_higher low high [] le down = tt
descend_higher low high (d ∷ ds) le down = (omega (arith, down.0), down.1)

each_none : (ds : List ℕ) → each_of ds [] ≡ []
each_none [] = refl
each_none (d ∷ ds) = each_none ds

each_skip : (ds : List ℕ) (r : Kept) (rows : List Kept) → DescendFrom r.end ds → each_of ds (r ∷ rows) ≡ each_of ds rows
each_skip [] r rows down = refl
each_skip (d ∷ ds) r rows down =
    let other : eqb r.end d ≡ false = ne_eqb r.end d (λ e. omega (arith, e, down.0)) in
    ap (λ (b : Bool). cons_option (cond b (Some r) (find (λ x. eqb x.end d) rows)) (each_of ds (r ∷ rows))) other
    ∙ ap (cons_option (find (λ x. eqb x.end d) rows)) (each_skip ds r rows (descend_higher d r.end ds (omega (arith, down.0)) down.1))

none_at : (d high : ℕ) (rows : List Kept) → high < d → FallFrom high rows → find (λ x. eqb x.end d) rows ≡ None
none_at d high [] lt fall = refl
none_at d high (r ∷ rows) lt fall =
    let other : eqb r.end d ≡ false = ne_eqb r.end d (λ e. omega (arith, e, fall.0)) in
    ap (λ (b : Bool). cond b (Some r) (find (λ x. eqb x.end d) rows)) other ∙ none_at d r.end rows (omega (arith, fall.0)) fall.1

narrow : (o high : ℕ) (ds : List ℕ) (rows : List Kept) → high < o → FallFrom high rows → EndsAmong (o ∷ ds) rows
    → EndsAmong ds rows
narrow o high ds [] lt fall among = tt
narrow o high ds (r ∷ rows) lt fall among =
    (elim (among.0) [ inl here ↦ absurd (omega (arith, here, fall.0)) | inr later ↦ later ], narrow o r.end ds rows (omega (arith, fall.0)) fall.1 among.1)

firsts_only : (o : ℕ) (rows : List Kept) → EndsAmong (o ∷ []) rows → firsts (Some o) rows ≡ []
firsts_only o [] among = refl
firsts_only o (r ∷ rows) among = elim (among.0) [
  | inl here ↦ firsts_again o r rows (eq-eqb r.end o here) ∙ firsts_only o rows among.1
  | inr later ↦ absurd later
]

fall_as : (a b : ℕ) (rows : List Kept) → a ≡ b → FallFrom a rows → FallFrom b rows
fall_as a b rows e fall = subst (λ (k : ℕ). FallFrom k rows) e fall

pub fall_higher : (low high : ℕ) (rows : List Kept) → low ≤ high → FallFrom low rows → FallFrom high rows
fall_higher low high [] le fall = tt
fall_higher low high (r ∷ rows) le fall = (omega (arith, fall.0), fall.1)

module _ (d : ℕ) (ds : List ℕ) (o : ℕ) (down : DescendFrom o (d ∷ ds)) (rest : (rows : List Kept) → FallFrom d rows → EndsAmong (d ∷ ds) rows → each_of ds rows ≡ firsts (Some d) rows) where
  -- the row bears the greatest end that is left
  one_here : (r : Kept) (rows : List Kept) → r.end ≡ d → FallFrom r.end rows → EndsAmong (o ∷ d ∷ ds) rows
      → each_of (d ∷ ds) (r ∷ rows) ≡ r ∷ firsts (Some r.end) rows
  one_here r rows e fall among =
      let few : each_of ds rows ≡ firsts (Some d) rows = rest rows (fall_as r.end d rows e fall) (narrow o r.end (d ∷ ds) rows (omega (arith, e, down.0)) fall among) in
      ap (λ (b : Bool). cons_option (cond b (Some r) (find (λ x. eqb x.end d) rows)) (each_of ds (r ∷ rows))) (eq-eqb r.end d e)
      ∙ ap (λ (l : List Kept). r ∷ l) (each_skip ds r rows (subst (λ (k : ℕ). DescendFrom k ds) (sym e) down.1) ∙ few ∙ ap (λ (k : ℕ). firsts (Some k) rows) (sym e))

  -- no row bears it
  one_lower : (r : Kept) (rows : List Kept) → eqb r.end d ≡ false → Among r.end ds → FallFrom r.end rows
      → EndsAmong (o ∷ d ∷ ds) rows → each_of (d ∷ ds) (r ∷ rows) ≡ r ∷ firsts (Some r.end) rows
  one_lower r rows other later fall among =
      let low : r.end < d = below_high d ds r.end down.1 later in
      ap (λ (b : Bool). cons_option (cond b (Some r) (find (λ x. eqb x.end d) rows)) (each_of ds (r ∷ rows))) other
      ∙ ap (λ (x : Option Kept). cons_option x (each_of ds (r ∷ rows))) (none_at d r.end rows low fall)
      ∙ rest (r ∷ rows) (omega arith, fall) (inr later, narrow o r.end (d ∷ ds) rows (omega (arith, low, down.0)) fall among)
      ∙ firsts_next d r rows other
    where
      below_high : (high : ℕ) (es : List ℕ) (e : ℕ) → DescendFrom high es → Among e es → e < high
      below_high high [] e dn there = absurd there
      below_high high (x ∷ es) e dn there = elim there [
        | inl here ↦ omega (arith, here, dn.0)
        | inr further ↦ omega (arith, dn.0, below_high x es e dn.1 further)
      ]

  one_more : (rows : List Kept) → FallFrom o rows → EndsAmong (o ∷ d ∷ ds) rows
      → each_of (d ∷ ds) rows ≡ firsts (Some o) rows
  one_more [] fall among = each_none (d ∷ ds)
  one_more (r ∷ rows) fall among = elim (cases_Bool (eqb r.end o)) [
    | inl same ↦
        let e : r.end ≡ o = eqb-true r.end o same in
        each_skip (d ∷ ds) r rows (subst (λ (k : ℕ). DescendFrom k (d ∷ ds)) (sym e) down)
        ∙ one_more rows (fall_as r.end o rows e fall.1) among.1
        ∙ sym (firsts_again o r rows same)
    | inr new ↦ elim (among.0) [
      | inl here ↦ absurd (eqb-false r.end o new here)
      | inr later ↦ elim later [
        | inl here ↦ one_here r rows here fall.1 among.1 ∙ sym (firsts_next o r rows new)
        | inr further ↦ elim (cases_Bool (eqb r.end d)) [
          | inl level ↦ one_here r rows (eqb-true r.end d level) fall.1 among.1 ∙ sym (firsts_next o r rows new)
          | inr other ↦ one_lower r rows other further fall.1 among.1 ∙ sym (firsts_next o r rows new)
        ]
      ]
    ]
  ]

pub each_firsts : (ds : List ℕ) (o : ℕ) (rows : List Kept) → DescendFrom o ds → FallFrom o rows
    → EndsAmong (o ∷ ds) rows → each_of ds rows ≡ firsts (Some o) rows
each_firsts [] o rows down fall among = sym (firsts_only o rows among)
each_firsts (d ∷ ds) o rows down fall among = one_more d ds o down (λ rows fall among. each_firsts ds d rows down.1 fall among) rows fall among

firsts_start : (o high : ℕ) (rows : List Kept) → high < o → FallFrom high rows → firsts (Some o) rows ≡ firsts None rows
firsts_start o high [] lt fall = refl
firsts_start o high (r ∷ rows) lt fall = firsts_next o r rows (ne_eqb r.end o (λ e. omega (arith, e, fall.0)))

-- ---- writes under their ends

abbrev pub mark : List ℕ → Numbered → Kept
mark ends n = record { end = end_at ends n.number; row = n.row }

abbrev pub has_key : List ℕ → Numbered → Bool
has_key key n = same_key key n.row.key

-- the writes of a key, each under its end
abbrev pub marks : List ℕ → List ℕ → List Numbered → List Kept
marks ends key writes = map (mark ends) (filter (has_key key) writes)

-- numbers above `low` that do not rise, the first at most `high`
abbrev pub NumbersFall : ℕ → ℕ → List Numbered → Type 0
NumbersFall low high [] = Unit {0}
NumbersFall low high (n ∷ writes) = (n.number ≤ high) × (low < n.number) × NumbersFall low n.number writes

numbers_push : (low high : ℕ) (n : Numbered) (writes : List Numbered) → NumbersFall n.number high writes
    → low < n.number → n.number ≤ high → NumbersFall low high (writes ++ n ∷ [])
numbers_push low high n [] fall lt le = (le, lt, tt)
numbers_push low high n (x ∷ writes) fall lt le = (fall.0, omega (arith, fall.1), numbers_push low x.number n writes fall.2 lt (omega (arith, fall.1)))

pub numbers_fall : (from : ℕ) (writes : List Row) (low high : ℕ) → low ≤ from → from + length writes ≤ high
    → NumbersFall low high (reverse (numbered_after from writes))
numbers_fall from [] low high le most = tt
numbers_fall from (w ∷ writes) low high le most =
    let n : Numbered = record { number = suc from; row = w } in
    subst (NumbersFall low high) (sym (reverse-append (n ∷ []) (numbered_after (suc from) writes)))
    (numbers_push low high n (reverse (numbered_after (suc from) writes)) (numbers_fall (suc from) writes (suc from) high (omega arith) (omega (arith, most))) (omega arith) (omega (arith, most)))

numbers_higher : (low high higher : ℕ) (writes : List Numbered) → high ≤ higher → NumbersFall low high writes
    → NumbersFall low higher writes
numbers_higher low high higher [] le fall = tt
numbers_higher low high higher (n ∷ writes) le fall = (omega (arith, fall.0), fall.1, fall.2)

numbers_one : (b : Bool) (low high : ℕ) (n : Numbered) (rest : List Numbered) → n.number ≤ high → low < n.number
    → NumbersFall low n.number rest → NumbersFall low high (cond b (n ∷ rest) rest)
numbers_one true low high n rest le lt fall = (le, lt, fall)
numbers_one false low high n rest le lt fall = numbers_higher low n.number high rest le fall

pub numbers_filter : (p : Numbered → Bool) (low high : ℕ) (writes : List Numbered) → NumbersFall low high writes
    → NumbersFall low high (filter p writes)
numbers_filter p low high [] fall = tt
numbers_filter p low high (n ∷ writes) fall = numbers_one (p n) low high n (filter p writes) fall.0 fall.1 (numbers_filter p low n.number writes fall.2)

-- the newest of a key in an interval is the first of its writes that bears the interval's end
newest_step : (ends key : List ℕ) (e : ℕ) (n : Numbered) (same there : Bool) (rest : List Kept) (found : Option Numbered)
    → eqb (end_at ends n.number) e ≡ there
    → find (λ r. eqb r.end e) rest ≡ option_map (λ x. record { end = e; row = x.row }) found
    → find (λ r. eqb r.end e) (map (mark ends) (cond same (n ∷ []) []) ++ rest) ≡ option_map (λ x. record { end = e; row = x.row }) (cond (same && there) (Some n) found)
newest_step ends key e n false there rest found is ih = ih
newest_step ends key e n true true rest found is ih =
    ap (λ (b : Bool). cond b (Some (mark ends n)) (find (λ r. eqb r.end e) rest)) is
    ∙ ap (λ (k : ℕ). Some (record { end = k; row = n.row })) (eqb-true (end_at ends n.number) e is)
newest_step ends key e n true false rest found is ih =
    ap (λ (b : Bool). cond b (Some (mark ends n)) (find (λ r. eqb r.end e) rest)) is ∙ ih

marks_cons : (ends key : List ℕ) (n : Numbered) (writes : List Numbered)
    → marks ends key (n ∷ writes) ≡ map (mark ends) (cond (has_key key n) (n ∷ []) []) ++ marks ends key writes
marks_cons ends key n writes = at (has_key key n)
  where
    at : (b : Bool)
        → map (mark ends) (cond b (n ∷ filter (has_key key) writes) (filter (has_key key) writes)) ≡ map (mark ends) (cond b (n ∷ []) []) ++ marks ends key writes
    at true = refl
    at false = refl

pub newest_mark : (ends key : List ℕ) (e : ℕ) (writes : List Numbered)
    → find (λ r. eqb r.end e) (marks ends key writes) ≡ option_map (λ n. record { end = e; row = n.row }) (find (λ n. same_key key n.row.key && eqb (end_at ends n.number) e) writes)
newest_mark ends key e [] = refl
newest_mark ends key e (n ∷ writes) =
    ap (find (λ r. eqb r.end e)) (marks_cons ends key n writes)
    ∙ newest_step ends key e n (has_key key n) (eqb (end_at ends n.number) e) (marks ends key writes) (find (λ n. same_key key n.row.key && eqb (end_at ends n.number) e) writes) refl (newest_mark ends key e writes)

pub newest_each_of : (ends key : List ℕ) (writes : List Numbered)
    → newest_each ends writes key ≡ each_of (reverse ends) (marks ends key (reverse writes))
newest_each_of ends key writes = ap (λ (f : ℕ → Option Kept). filter_map f (reverse ends)) (λ i e. sym (newest_mark ends key e (reverse writes)) i)

-- ---- the writes of a range

module _ (from to : ℕ) (cuts : List ℕ) (are : CutsFrom from cuts to) (some : from < to) where
  pub marks_fall : (high : ℕ) (writes : List Numbered) → high ≤ to → NumbersFall from high writes
      → FallFrom (end_at (ends_of cuts to) high) (map (mark (ends_of cuts to)) writes)
  marks_fall high [] most fall = tt
  marks_fall high (n ∷ writes) most fall =
      (range_end_rises from to cuts are n.number high some fall.0 most, marks_fall n.number writes (omega (arith, fall.0)) fall.2)

  pub marks_among : (high : ℕ) (writes : List Numbered) → high ≤ to → NumbersFall from high writes
      → EndsAmong (reverse (ends_of cuts to)) (map (mark (ends_of cuts to)) writes)
  marks_among high [] most fall = tt
  marks_among high (n ∷ writes) most fall =
      let le : n.number ≤ to = omega (arith, fall.0) in
      (among_turned (end_at (ends_of cuts to) n.number) (ends_of cuts to) (range_end_is from to cuts are n.number le).0, marks_among n.number writes le fall.2)

  widen : (o : ℕ) (ds : List ℕ) (rows : List Kept) → EndsAmong ds rows → EndsAmong (o ∷ ds) rows
  widen o ds [] among = tt
  widen o ds (r ∷ rows) among = (inr among.0, widen o ds rows among.1)

  some_firsts : (key : List ℕ) (writes : List Numbered) → NumbersFall from to (reverse writes)
      → newest_each (ends_of cuts to) writes key ≡ firsts None (marks (ends_of cuts to) key (reverse writes))
  some_firsts key writes fall =
      let ends = ends_of cuts to in
      let ks = marks ends key (reverse writes) in
      let own : NumbersFall from to (filter (has_key key) (reverse writes)) = numbers_filter (has_key key) from to (reverse writes) fall in
      let most : end_at ends to ≤ to = range_end_most from to cuts are to (omega arith) in
      let down : FallFrom (end_at ends to) ks = marks_fall to (filter (has_key key) (reverse writes)) (omega arith) own in
      newest_each_of ends key writes
      ∙ each_firsts (reverse ends) (suc to) ks (turned_down (suc to) from ends (ends_ascend from to cuts some are) (ends_under from to cuts are))
      (fall_higher (end_at ends to) (suc to) ks (omega (arith, most)) down)
      (widen (suc to) (reverse ends) ks (marks_among to (filter (has_key key) (reverse writes)) (omega arith) own))
      ∙ firsts_start (suc to) (end_at ends to) ks (omega (arith, most)) down

pub newest_firsts : (from to : ℕ) (cuts : List ℕ) → CutsFrom from cuts to → (writes : List Row)
    → from + length writes ≤ to → (key : List ℕ)
    → newest_each (ends_of cuts to) (numbered_after from writes) key ≡ firsts None (marks (ends_of cuts to) key (reverse (numbered_after from writes)))
newest_firsts from to cuts are [] most key = newest_each_of (ends_of cuts to) key [] ∙ each_none (reverse (ends_of cuts to))
newest_firsts from to cuts are (w ∷ writes) most key =
    some_firsts from to cuts are (omega (arith, most)) key (numbered_after from (w ∷ writes)) (numbers_fall from (w ∷ writes) from to (omega arith) most)
