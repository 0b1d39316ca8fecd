-- What a flat says of reads at a cut that its range is clear of: the newest op of the key among the writes up to the
-- cut; where nothing lies below, its value.
use Rattle.std.proofs.Common.{◌≡◌, ℕ, zero, suc, ◌<◌, ◌≤◌, ◌+◌, ◌-◌, inl, inr, Bool, true, false, cond, ◌&&◌, nat_le, List, [], ◌∷◌, ◌++◌, length, map, reverse, take, Option, Some, None, refl, sym, ap, subst, ◌∙◌, arith}
use Rattle.std.specs.Option.{option_map, option_and_then, option_or}
use Rattle.std.specs.List.{find, filter, AllByRecursion}
use Rattle.std.proofs.lemmas.Bool.{cases_Bool, eqb-true, leb-true, leb-false, lt-leb, and_parts}
use Rattle.std.proofs.lemmas.List.{reverse-append}
use Rattle.std.proofs.lemmas.List.Folds.{find-append}
use Rattle.sv_model.specs.declared.writes.Row.{Row}
use Rattle.sv_model.specs.declared.writes.Op.{Op}
use Rattle.sv_model.specs.declared.writes.Op.TheVariants.{Put, Delete}
use Rattle.sv_model.specs.declared.writes.Kept.{Kept}
use Rattle.sv_model.specs.declared.writes.Numbered.{Numbered}
use Rattle.sv_model.specs.declared.cuts.Bottom.{Bottom}
use Rattle.sv_model.specs.Journal.{same_key, is_delete, newest_row, newest_op, value_of}
use Rattle.sv_model.specs.Order.{first_upto, key_of_kept, end_of_kept}
use Rattle.sv_model.specs.Flat.{numbered_after, of_key, ends_of, end_at, newest_each, is_empty, without_last_deletes, stays, IsFlatOf, CutsFrom, AreCuts, IsClearIn}
use Rattle.sv_model.proofs.FlatEnds.{clear_same}
use Rattle.sv_model.proofs.FlatFirsts.{is_last, firsts, mark, marks, has_key, NumbersFall, numbers_fall, newest_firsts}

-- ---- the rows of a key

-- the first of them that passes a test
pub find_filter : {A : Type 0} (p q : A → Bool) (xs : List A) → find (λ x. p x && q x) xs ≡ find q (filter p xs)
find_filter p q [] = refl
find_filter {A} p q (x ∷ xs) = at (p x) (find_filter p q xs)
  where
    at : (b : Bool) → find (λ y. p y && q y) xs ≡ find q (filter p xs)
        → cond (b && q x) (Some x) (find (λ y. p y && q y) xs) ≡ find q (cond b (x ∷ filter p xs) (filter p xs))
    at true h = ap (cond (q x) (Some x)) h
    at false h = h

abbrev pub within : ℕ → Kept → Bool
within cut r = nat_le r.end cut

pub upto_of_key : (key : List ℕ) (cut : ℕ) (rows : List Kept)
    → first_upto key_of_kept end_of_kept key cut rows ≡ find (within cut) (of_key key rows)
upto_of_key key cut rows = find_filter (λ r. same_key key r.row.key) (within cut) rows

-- ---- deletes below which nothing stays

abbrev pub AllDeletes : List Kept → Type 0
AllDeletes rows = AllByRecursion (λ r. is_delete r.row.op ≡ true) rows

empty_is : (rows : List Kept) → is_empty rows ≡ true → rows ≡ []
empty_is [] e = refl
empty_is (r ∷ rows) e = absurd (cc e)

-- what was left out are deletes at the old end
pub deletes_left : (rows : List Kept)
    → (left : List Kept) × (rows ≡ without_last_deletes rows ++ left) × AllDeletes left
deletes_left [] = ([], refl, tt)
deletes_left (r ∷ rows) = at (is_delete r.row.op && is_empty (without_last_deletes rows)) refl (deletes_left rows)
  where
    at : (b : Bool) → (is_delete r.row.op && is_empty (without_last_deletes rows)) ≡ b
        → (left : List Kept) × (rows ≡ without_last_deletes rows ++ left) × AllDeletes left
        → (left : List Kept) × (r ∷ rows ≡ cond b [] (r ∷ without_last_deletes rows) ++ left) × AllDeletes left
    at true e rest =
        let parts = and_parts (is_delete r.row.op) (is_empty (without_last_deletes rows)) e in
        let all : rows ≡ rest.0 = rest.1 ∙ ap (λ (l : List Kept). l ++ rest.0) (empty_is (without_last_deletes rows) parts.1) in
        (r ∷ rows, refl, (parts.0, subst AllDeletes (sym all) rest.2))
    at false e rest = (rest.0, ap (λ (l : List Kept). r ∷ l) rest.1, rest.2)

abbrev pub op_at : Option Kept → Option Op
op_at found = option_map (λ r. r.row.op) found

-- the value that the found row leaves
abbrev pub value_at : Option Kept → Option (List ℕ)
value_at found = option_and_then value_of (op_at found)

no_value : (op : Op) → is_delete op ≡ true → value_of op ≡ None
no_value (Put value) e = absurd (cc e)
no_value Delete e = refl

deletes_value : (p : Kept → Bool) (rows : List Kept) → AllDeletes rows → value_at (find p rows) ≡ None
deletes_value p [] all = refl
deletes_value p (r ∷ rows) all = at (p r) (deletes_value p rows all.1)
  where
    at : (b : Bool) → value_at (find p rows) ≡ None → value_at (cond b (Some r) (find p rows)) ≡ None
    at true h = no_value r.row.op all.0
    at false h = h

or_value : (a b : Option Kept) → value_at b ≡ None → value_at (option_or a b) ≡ value_at a
or_value (Some r) b h = refl
or_value None b h = h

pub without_value : (p : Kept → Bool) (rows : List Kept)
    → value_at (find p (without_last_deletes rows)) ≡ value_at (find p rows)
without_value p rows =
    let split = deletes_left rows in
    sym (ap (λ (l : List Kept). value_at (find p l)) split.1
    ∙ ap value_at (find-append p (without_last_deletes rows) split.0)
    ∙ or_value (find p (without_last_deletes rows)) (find p split.0) (deletes_value p split.0 split.2))

pub stays_value : (last : Bool) (p : Kept → Bool) (rows : List Kept)
    → value_at (find p (stays last rows)) ≡ value_at (find p rows)
stays_value true p rows = without_value p rows
stays_value false p rows = refl

-- ---- the first of each end

-- the end that was last met is above the cut
abbrev Above : Option ℕ → ℕ → Type 0
Above None cut = Unit {0}
Above (Some e) cut = cut < e

again_above : (last : Option ℕ) (e cut : ℕ) → Above last cut → is_last last e ≡ true → nat_le e cut ≡ false
again_above None e cut above same = absurd (cc same)
again_above (Some l) e cut above same = lt-leb e cut (let is = eqb-true e l same in omega (arith, is, above))

pub firsts_within : (cut : ℕ) (last : Option ℕ) (rows : List Kept) → Above last cut
    → find (within cut) (firsts last rows) ≡ find (within cut) rows
firsts_within cut last [] above = refl
firsts_within cut last (r ∷ rows) above = at (is_last last r.end) refl (nat_le r.end cut) refl (firsts_within cut last rows above) (λ more. firsts_within cut (Some r.end) rows more)
  where
    at : (again : Bool) → is_last last r.end ≡ again → (low : Bool) → nat_le r.end cut ≡ low
        → find (within cut) (firsts last rows) ≡ find (within cut) rows
        → (cut < r.end → find (within cut) (firsts (Some r.end) rows) ≡ find (within cut) rows)
        → find (within cut) (cond again (firsts last rows) (r ∷ firsts (Some r.end) rows)) ≡ cond low (Some r) (find (within cut) rows)
    at true e low is skip next = skip ∙ ap (λ (b : Bool). cond b (Some r) (find (within cut) rows)) (sym (again_above last r.end cut above e) ∙ is)
    at false e true is skip next = ap (λ (b : Bool). cond b (Some r) (find (within cut) (firsts (Some r.end) rows))) is
    at false e false is skip next = ap (λ (b : Bool). cond b (Some r) (find (within cut) (firsts (Some r.end) rows))) is ∙ next (leb-false r.end cut is)

-- ---- the newest write up to a cut

abbrev pub upto : List ℕ → ℕ → Numbered → Bool
upto key cut n = same_key key n.row.key && nat_le n.number cut

module _ (from to : ℕ) (cuts : List ℕ) (are : CutsFrom from cuts to) (cut : ℕ) (clear : IsClearIn from to cuts cut) (key : List ℕ) where
  marks_within : (high : ℕ) (writes : List Numbered) → high ≤ to → NumbersFall from high writes
      → find (within cut) (marks (ends_of cuts to) key writes) ≡ option_map (mark (ends_of cuts to)) (find (upto key cut) writes)
  marks_within high [] most fall = refl
  marks_within high (n ∷ writes) most fall =
      let le : n.number ≤ to = omega (arith, fall.0) in
      at (has_key key n) (clear_same from to cuts are cut n.number clear fall.1 le) (nat_le n.number cut) refl (marks_within n.number writes le fall.2)
    where
      at : (same : Bool) → nat_le (end_at (ends_of cuts to) n.number) cut ≡ nat_le n.number cut → (low : Bool)
          → nat_le n.number cut ≡ low
          → find (within cut) (marks (ends_of cuts to) key writes) ≡ option_map (mark (ends_of cuts to)) (find (upto key cut) writes)
          → find (within cut) (map (mark (ends_of cuts to)) (cond same (n ∷ filter (has_key key) writes) (filter (has_key key) writes))) ≡ option_map (mark (ends_of cuts to)) (cond (same && nat_le n.number cut) (Some n) (find (upto key cut) writes))
      at false e low is ih = ih
      at true e true is ih =
          let ends = ends_of cuts to in
          ap (λ (b : Bool). cond b (Some (mark ends n)) (find (within cut) (marks ends key writes))) (e ∙ is)
          ∙ sym (ap (λ (b : Bool). option_map (mark ends) (cond b (Some n) (find (upto key cut) writes))) is)
      at true e false is ih =
          let ends = ends_of cuts to in
          ap (λ (b : Bool). cond b (Some (mark ends n)) (find (within cut) (marks ends key writes))) (e ∙ is)
          ∙ ih
          ∙ sym (ap (λ (b : Bool). option_map (mark ends) (cond b (Some n) (find (upto key cut) writes))) is)

-- the row that was found, without its number
abbrev pub row_at : Option Numbered → Option Row
row_at found = option_map (λ n. n.row) found

or_row : (a b : Option Numbered) → row_at (option_or a b) ≡ option_or (row_at a) (row_at b)
or_row None b = refl
or_row (Some n) b = refl

none_upto : (key : List ℕ) (cut before : ℕ) (writes : List Row) → cut ≤ before
    → find (upto key cut) (reverse (numbered_after before writes)) ≡ None
none_upto key cut before [] le = refl
none_upto key cut before (w ∷ writes) le =
    let n : Numbered = record { number = suc before; row = w } in
    ap (find (upto key cut)) (reverse-append (n ∷ []) (numbered_after (suc before) writes))
    ∙ find-append (upto key cut) (reverse (numbered_after (suc before) writes)) (n ∷ [])
    ∙ ap (λ (x : Option Numbered). option_or x (find (upto key cut) (n ∷ []))) (none_upto key cut (suc before) writes (omega arith))
    ∙ ap (λ (b : Bool). cond b (Some n) None) (ap (λ (b : Bool). same_key key w.key && b) (lt-leb (suc before) cut (omega arith)) ∙ and-false (same_key key w.key))
  where
    and-false : (b : Bool) → (b && false) ≡ false
    and-false true = refl
    and-false false = refl

newest_cons : (key : List ℕ) (w : Row) (writes : List Row)
    → newest_row key (w ∷ writes) ≡ option_or (newest_row key writes) (cond (same_key key w.key) (Some w) None)
newest_cons key w writes =
    ap (find (λ r. same_key key r.key)) (reverse-append (w ∷ []) writes) ∙ find-append (λ r. same_key key r.key) (reverse writes) (w ∷ [])

abbrev no_rows : List Row
no_rows = []

take_none : (n : ℕ) → take n no_rows ≡ []
take_none zero = refl
take_none (suc n) = refl

-- the newest of the writes whose number does not pass the cut
pub newest_upto : (key : List ℕ) (cut before : ℕ) (writes : List Row)
    → row_at (find (upto key cut) (reverse (numbered_after before writes))) ≡ newest_row key (take (cut - before) writes)
newest_upto key cut before [] = ap (newest_row key) (sym (take_none (cut - before)))
newest_upto key cut before (w ∷ writes) = elim (cases_Bool (nat_le (suc before) cut)) [
  | inl low ↦
      let n : Numbered = record { number = suc before; row = w } in
      let some : cut - before ≡ suc (cut - suc before) = let h = leb-true (suc before) cut low in omega (arith, h) in
      ap (λ (l : List Numbered). row_at (find (upto key cut) l)) (reverse-append (n ∷ []) (numbered_after (suc before) writes))
      ∙ ap row_at (find-append (upto key cut) (reverse (numbered_after (suc before) writes)) (n ∷ []))
      ∙ or_row (find (upto key cut) (reverse (numbered_after (suc before) writes))) (find (upto key cut) (n ∷ []))
      ∙ (λ i. option_or (newest_upto key cut (suc before) writes i) (row_at (cond (same_key key w.key && low i) (Some n) None)))
      ∙ ap (option_or (newest_row key (take (cut - suc before) writes))) (one (same_key key w.key) n)
      ∙ sym (newest_cons key w (take (cut - suc before) writes))
      ∙ ap (λ (k : ℕ). newest_row key (take k (w ∷ writes))) (sym some)
  | inr high ↦
      let n : Numbered = record { number = suc before; row = w } in
      let none : cut - before ≡ 0 = let h = leb-false (suc before) cut high in omega (arith, h) in
      ap row_at (none_upto key cut before (w ∷ writes) (let h = leb-false (suc before) cut high in omega (arith, h)))
      ∙ ap (λ (k : ℕ). newest_row key (take k (w ∷ writes))) (sym none)
]
  where
    one : (b : Bool) (n : Numbered) → row_at (cond (b && true) (Some n) None) ≡ cond b (Some n.row) None
    one true n = refl
    one false n = refl

op_marked : (ends : List ℕ) (found : Option Numbered)
    → op_at (option_map (mark ends) found) ≡ option_map (λ r. r.op) (row_at found)
op_marked ends None = refl
op_marked ends (Some n) = refl

-- ---- reads of a flat

module _ (from to : ℕ) (bottom : Bottom) (writes : List Row) (rows : List Kept) (are : AreCuts from to bottom.cuts) (fit : from + length writes ≤ to) (flat : IsFlatOf from to bottom writes rows) (cut : ℕ) (clear : IsClearIn from to bottom.cuts cut) (key : List ℕ) where
  found_newest : op_at (find (within cut) (newest_each (ends_of bottom.cuts to) (numbered_after from writes) key)) ≡ newest_op key (take (cut - from) writes)
  found_newest =
      let ends = ends_of bottom.cuts to in
      let turned = reverse (numbered_after from writes) in
      ap (λ (l : List Kept). op_at (find (within cut) l)) (newest_firsts from to bottom.cuts are.ascend writes fit key)
      ∙ ap op_at (firsts_within cut None (marks ends key turned) tt ∙ marks_within from to bottom.cuts are.ascend cut clear key to turned (omega arith) (numbers_fall from writes from to (omega arith) fit))
      ∙ op_marked ends (find (upto key cut) turned)
      ∙ ap (option_map (λ (r : Row). r.op)) (newest_upto key cut from writes)

  found_row : first_upto key_of_kept end_of_kept key cut rows ≡ find (within cut) (stays bottom.last (newest_each (ends_of bottom.cuts to) (numbered_after from writes) key))
  found_row = upto_of_key key cut rows ∙ ap (find (within cut)) (flat.newest key)

  -- the value is that which the writes up to the cut leave
  pub flat_value : value_at (first_upto key_of_kept end_of_kept key cut rows) ≡ option_and_then value_of (newest_op key (take (cut - from) writes))
  flat_value =
      ap value_at found_row
      ∙ stays_value bottom.last (within cut) (newest_each (ends_of bottom.cuts to) (numbered_after from writes) key)
      ∙ ap (option_and_then value_of) found_newest

  -- where something may lie below, the op itself is the newest
  pub flat_op : bottom.last ≡ false
      → op_at (first_upto key_of_kept end_of_kept key cut rows) ≡ newest_op key (take (cut - from) writes)
  flat_op plain =
      ap op_at found_row
      ∙ ap (λ (b : Bool). op_at (find (within cut) (stays b (newest_each (ends_of bottom.cuts to) (numbered_after from writes) key)))) plain
      ∙ found_newest

  -- at a cut before the range there is no row
  pub flat_none : cut ≤ from → first_upto key_of_kept end_of_kept key cut rows ≡ None
  flat_none before =
      let each = newest_each (ends_of bottom.cuts to) (numbered_after from writes) key in
      let nothing : cut - from ≡ 0 = omega arith in
      found_row ∙ none_stays bottom.last (within cut) each (no_op (find (within cut) each) (found_newest ∙ ap (λ (n : ℕ). newest_op key (take n writes)) nothing))
    where
      no_op : (found : Option Kept) → op_at found ≡ None → found ≡ None
      no_op None e = refl
      no_op (Some r) e = absurd (cc e)

      no_left : (a b : Option Kept) → option_or a b ≡ None → a ≡ None
      no_left None b e = refl
      no_left (Some r) b e = absurd (cc e)

      none_stays : (last : Bool) (p : Kept → Bool) (ks : List Kept) → find p ks ≡ None → find p (stays last ks) ≡ None
      none_stays false p ks e = e
      none_stays true p ks e =
          let split = deletes_left ks in
          no_left (find p (without_last_deletes ks)) (find p split.0) (sym (find-append p (without_last_deletes ks) split.0) ∙ ap (find p) (sym split.1) ∙ e)
