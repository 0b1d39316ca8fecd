-- What a flat is: one list, of at most as many rows as writes, each under an end of its range.
use Rattle.std.proofs.Common.{◌≡◌, ℕ, suc, ◌≤◌, ◌+◌, ◌-◌, inl, inr, Bool, true, false, cond, ◌&&◌, eqb, nat_le, List, [], ◌∷◌, ◌++◌, length, map, reverse, take, Option, Some, None, refl, sym, ap, subst, ◌∙◌, arith}
use Rattle.std.specs.Option.{option_map, option_to_list}
use Rattle.std.specs.List.{find, filter, filter_map, cons_option, AllByRecursion}
use Rattle.std.proofs.lemmas.Bool.{le-leb, eq-eqb}
use Rattle.std.proofs.lemmas.List.{length-map, length-reverse, length-append, reverse-reverse, take_all}
use Rattle.sv_model.specs.declared.writes.Row.{Row}
use Rattle.sv_model.specs.declared.writes.Kept.{Kept}
use Rattle.sv_model.specs.declared.writes.Numbered.{Numbered}
use Rattle.sv_model.specs.declared.cuts.Bottom.{Bottom}
use Rattle.sv_model.specs.Lists.{In}
use Rattle.sv_model.specs.Journal.{same_key, is_delete, newest_row}
use Rattle.sv_model.specs.Order.{RisesBy, first_upto, key_of_kept, end_of_kept}
use Rattle.sv_model.specs.Flat.{numbered_after, of_key, ends_of, end_at, newest_in, newest_each, without_last_deletes, stays, IsFlatOf, CutsFrom, AreCuts}
use Rattle.sv_model.proofs.KeyOrder.{same_yes}
use Rattle.sv_model.proofs.FlatEnds.{Among, in_among, among_in, among_turned, at_first}
use Rattle.sv_model.proofs.FlatFirsts.{is_last, firsts, mark, marks, has_key, NumbersFall, numbers_fall, numbers_filter, marks_fall, newest_firsts}
use Rattle.sv_model.proofs.FlatReads.{deletes_left, newest_upto, row_at, upto, within, upto_of_key}
use Rattle.sv_model.proofs.FlatKeys.{Drops, firsts_drops, stays_drops, ordered_of_keys, ordered_rises, one_list, all_of_keys, few_of_keys}

-- ---- a range has one flat

pub flat_one : (from to : ℕ) (bottom : Bottom) (writes : List Row) (xs ys : List Kept)
    → IsFlatOf from to bottom writes xs → IsFlatOf from to bottom writes ys → xs ≡ ys
flat_one from to bottom writes xs ys f g =
    one_list xs ys (ordered_rises xs f.ordered) (ordered_rises ys g.ordered) (λ key. f.newest key ∙ sym (g.newest key))

-- ---- rows by key that are a flat's

each_drops : (from to : ℕ) (cuts : List ℕ) → CutsFrom from cuts to → (writes : List Row) → from + length writes ≤ to
    → (key : List ℕ) → Drops (newest_each (ends_of cuts to) (numbered_after from writes) key)
each_drops from to cuts are [] fit key = subst Drops (sym (newest_firsts from to cuts are [] fit key)) tt
each_drops from to cuts are (w ∷ writes) fit key =
    let ends = ends_of cuts to in
    let turned = reverse (numbered_after from (w ∷ writes)) in
    let own : NumbersFall from to (filter (has_key key) turned) = numbers_filter (has_key key) from to turned (numbers_fall from (w ∷ writes) from to (omega arith) fit) in
    subst Drops (sym (newest_firsts from to cuts are (w ∷ writes) fit key))
    (firsts_drops (end_at ends to) (marks ends key turned) (marks_fall from to cuts are (omega (arith, fit)) to (filter (has_key key) turned) (omega arith) own))

-- rows by key, of which each key's are those of a flat, are the flat
pub flat_of_keys : (from to : ℕ) (bottom : Bottom) (writes : List Row) (rows : List Kept)
    → AreCuts from to bottom.cuts → from + length writes ≤ to → RisesBy key_of_kept rows
    → ((key : List ℕ) → of_key key rows ≡ stays bottom.last (newest_each (ends_of bottom.cuts to) (numbered_after from writes) key)) → IsFlatOf from to bottom writes rows
flat_of_keys from to bottom writes rows are fit rises newest = record {
  ordered = ordered_of_keys rows rises (λ key.
      let each = newest_each (ends_of bottom.cuts to) (numbered_after from writes) key in
      subst Drops (sym (newest key)) (stays_drops bottom.last each (each_drops from to bottom.cuts are.ascend writes fit key)));
  newest = newest;
}

-- ---- how many rows

one_fewer : (b : Bool) (r : Kept) (left more : List Kept) (n : ℕ) → length left ≤ n → length more ≤ n
    → length (cond b left (r ∷ more)) ≤ suc n
one_fewer true r left more n le few = omega arith
one_fewer false r left more n le few = omega arith

pub firsts_few : (last : Option ℕ) (rows : List Kept) → length (firsts last rows) ≤ length rows
firsts_few last [] = omega arith
firsts_few last (r ∷ rows) = one_fewer (is_last last r.end) r (firsts last rows) (firsts (Some r.end) rows) (length rows) (firsts_few last rows) (firsts_few (Some r.end) rows)

pub without_few : (rows : List Kept) → length (without_last_deletes rows) ≤ length rows
without_few rows =
    let split = deletes_left rows in
    omega (arith, ap length split.1, length-append (without_last_deletes rows) split.0)

pub stays_few : (last : Bool) (rows : List Kept) → length (stays last rows) ≤ length rows
stays_few true rows = without_few rows
stays_few false rows = omega arith

pub length_numbered : (before : ℕ) (writes : List Row) → length (numbered_after before writes) ≡ length writes
length_numbered before [] = refl
length_numbered before (w ∷ writes) = ap suc (length_numbered (suc before) writes)

module _ (from to : ℕ) (bottom : Bottom) (writes : List Row) (rows : List Kept) (are : AreCuts from to bottom.cuts) (fit : from + length writes ≤ to) (flat : IsFlatOf from to bottom writes rows) where
  few_of_key : (key : List ℕ)
      → length (of_key key rows) ≤ length (filter (has_key key) (reverse (numbered_after from writes)))
  few_of_key key =
      let ends = ends_of bottom.cuts to in
      let turned = reverse (numbered_after from writes) in
      let each = newest_each ends (numbered_after from writes) key in
      omega (arith, ap length (flat.newest key), stays_few bottom.last each, ap length (newest_firsts from to bottom.cuts are.ascend writes fit key), firsts_few None (marks ends key turned), length-map (filter (has_key key) turned) (mark ends))

  -- there are at most as many rows as writes
  pub flat_few : length rows ≤ length writes
  flat_few =
      let turned = reverse (numbered_after from writes) in
      omega (arith, few_of_keys key_of_kept (λ (n : Numbered). n.row.key) rows turned few_of_key, length-reverse (numbered_after from writes), length_numbered from writes)

  some_of : (n : Numbered) (turned : List Numbered) → reverse (numbered_after from writes) ≡ n ∷ turned
      → bottom.last ≡ false → 1 ≤ length rows
  some_of n turned is plain =
      let ends = ends_of bottom.cuts to in
      let key = n.row.key in
      let own : filter (has_key key) (n ∷ turned) ≡ n ∷ filter (has_key key) turned = ap (λ (b : Bool). cond b (n ∷ filter (has_key key) turned) (filter (has_key key) turned)) (same_yes key key refl) in
      let first : of_key key rows ≡ mark ends n ∷ firsts (Some (end_at ends n.number)) (map (mark ends) (filter (has_key key) turned)) =
      flat.newest key
      ∙ ap (λ (b : Bool). stays b (newest_each ends (numbered_after from writes) key)) plain
      ∙ newest_firsts from to bottom.cuts are.ascend writes fit key
      ∙ ap (λ (l : List Numbered). firsts None (map (mark ends) (filter (has_key key) l))) is
      ∙ ap (λ (l : List Numbered). firsts None (map (mark ends) l)) own in
      has_one key rows (mark ends n) (firsts (Some (end_at ends n.number)) (map (mark ends) (filter (has_key key) turned))) first
    where
      has_one : (key : List ℕ) (rows : List Kept) (z : Kept) (zs : List Kept) → of_key key rows ≡ z ∷ zs
          → 1 ≤ length rows
      has_one key [] z zs e = absurd (cc e)
      has_one key (r ∷ rows) z zs e = omega arith

  -- where something may lie below there is a row where there is a write
  pub flat_some : bottom.last ≡ false → 1 ≤ length writes → 1 ≤ length rows
  flat_some plain some = at (reverse (numbered_after from writes)) refl
    where
      at : (turned : List Numbered) → reverse (numbered_after from writes) ≡ turned → 1 ≤ length rows
      at [] is = absurd (omega (arith, ap length is, length-reverse (numbered_after from writes), length_numbered from writes, some))
      at (n ∷ turned) is = some_of n turned is plain

-- ---- the ends

all_front : (P : Kept → Type 0) (xs ys : List Kept) → AllByRecursion P (xs ++ ys) → AllByRecursion P xs
all_front P [] ys all = tt
all_front P (x ∷ xs) ys all = (all.0, all_front P xs ys all.1)

pub all_stays : (P : Kept → Type 0) (last : Bool) (rows : List Kept) → AllByRecursion P rows
    → AllByRecursion P (stays last rows)
all_stays P false rows all = all
all_stays P true rows all =
    let split = deletes_left rows in all_front P (without_last_deletes rows) split.0 (subst (AllByRecursion P) split.1 all)

all_sub : (xs ys : List ℕ) → ((e : ℕ) → Among e xs → Among e ys) → AllByRecursion (λ e. In e ys) xs
all_sub [] ys sub = tt
all_sub (x ∷ xs) ys sub = (in_among x ys (sub x (inl refl)), all_sub xs ys (λ e there. sub e (inr there)))

ends_of_each : (ends : List ℕ) (writes : List Numbered) (key ds : List ℕ) → AllByRecursion (λ e. In e ends) ds
    → AllByRecursion (λ r. In r.end ends) (filter_map (newest_in ends writes key) ds)
ends_of_each ends writes key [] all = tt
ends_of_each ends writes key (d ∷ ds) all = at (find (λ n. same_key key n.row.key && eqb (end_at ends n.number) d) (reverse writes)) (ends_of_each ends writes key ds all.1)
  where
    at : (found : Option Numbered) → AllByRecursion (λ r. In r.end ends) (filter_map (newest_in ends writes key) ds)
        → AllByRecursion (λ r. In r.end ends) (cons_option (option_map (λ n. record { end = d; row = n.row }) found) (filter_map (newest_in ends writes key) ds))
    at None ih = ih
    at (Some n) ih = (all.0, ih)

-- each row bears one of the ends
pub flat_ends : (from to : ℕ) (bottom : Bottom) (writes : List Row) (rows : List Kept)
    → IsFlatOf from to bottom writes rows → AllByRecursion (λ r. In r.end (ends_of bottom.cuts to)) rows
flat_ends from to bottom writes rows flat =
    let ends = ends_of bottom.cuts to in
    let all : AllByRecursion (λ e. In e ends) (reverse ends) = all_sub (reverse ends) ends (λ e there. subst (λ (l : List ℕ). Among e l) (reverse-reverse ends) (among_turned e (reverse ends) there)) in
    all_of_keys (λ r. In r.end ends) rows (λ key.
    let each = newest_each ends (numbered_after from writes) key in
    subst (AllByRecursion (λ (r : Kept). In r.end ends)) (sym (flat.newest key)) (all_stays (λ r. In r.end ends) bottom.last each (ends_of_each ends (numbered_after from writes) key (reverse ends) all)))

-- ---- without cuts

-- what stays of the newest write
abbrev pub what_stays : Bool → Option Row → Option Row
what_stays last None = None
what_stays last (Some row) = cond (last && is_delete row.op) None (Some row)

abbrev pub ending : ℕ → Row → Kept
ending to row = record { end = to; row = row }

find_level : (key : List ℕ) (from to high : ℕ) (writes : List Numbered) → high ≤ to → NumbersFall from high writes
    → find (λ n. same_key key n.row.key && eqb (end_at (to ∷ []) n.number) to) writes ≡ find (upto key to) writes
find_level key from to high [] most fall = refl
find_level key from to high (n ∷ writes) most fall =
    let le : n.number ≤ to = omega (arith, fall.0) in
    let level : eqb (end_at (to ∷ []) n.number) to ≡ nat_le n.number to = eq-eqb (end_at (to ∷ []) n.number) to (at_first n.number to [] (le-leb n.number to le)) ∙ sym (le-leb n.number to le) in
    (λ i. cond (same_key key n.row.key && level i) (Some n) (find_level key from to n.number writes le fall.2 i))

whole_take : (from to : ℕ) (writes : List Row) → from + length writes ≤ to → take (to - from) writes ≡ writes
whole_take from to writes fit = take_all (to - from) writes (omega (arith, fit))

newest_level : (from to : ℕ) (writes : List Row) (key : List ℕ) → from + length writes ≤ to
    → newest_in (to ∷ []) (numbered_after from writes) key to ≡ option_map (ending to) (newest_row key writes)
newest_level from to writes key fit =
    let turned = reverse (numbered_after from writes) in
    ap (option_map (λ (n : Numbered). ending to n.row)) (find_level key from to to turned (omega arith) (numbers_fall from writes from to (omega arith) fit))
    ∙ by_row (find (upto key to) turned)
    ∙ ap (option_map (ending to)) (newest_upto key to from writes ∙ ap (newest_row key) (whole_take from to writes fit))
  where
    by_row : (found : Option Numbered) → option_map (λ n. ending to n.row) found ≡ option_map (ending to) (row_at found)
    by_row None = refl
    by_row (Some n) = refl

one_stays : (last : Bool) (to : ℕ) (newest : Option Row)
    → stays last (cons_option (option_map (ending to) newest) []) ≡ option_to_list (option_map (ending to) (what_stays last newest))
one_stays true to None = refl
one_stays false to None = refl
one_stays false to (Some row) = refl
one_stays true to (Some row) = at (is_delete row.op)
  where
    at : (b : Bool)
        → cond (b && true) [] (ending to row ∷ []) ≡ option_to_list (option_map (ending to) (cond b None (Some row)))
    at true = refl
    at false = refl

-- Without cuts a key has one row, its newest write, which bears the last write; where nothing lies below, none where
-- that is a delete.
pub plain_rows : (from to : ℕ) (bottom : Bottom) (writes : List Row) (rows : List Kept) → bottom.cuts ≡ []
    → from + length writes ≤ to → IsFlatOf from to bottom writes rows → (key : List ℕ)
    → of_key key rows ≡ option_to_list (option_map (ending to) (what_stays bottom.last (newest_row key writes)))
plain_rows from to bottom writes rows uncut fit flat key =
    flat.newest key
    ∙ ap (λ (cuts : List ℕ). stays bottom.last (newest_each (ends_of cuts to) (numbered_after from writes) key)) uncut
    ∙ ap (λ (x : Option Kept). stays bottom.last (cons_option x [])) (newest_level from to writes key fit)
    ∙ one_stays bottom.last to (newest_row key writes)

end_is_to : (to e : ℕ) → In e (to ∷ []) → e ≡ to
end_is_to to e there = elim (among_in e (to ∷ []) there) [ inl here ↦ here | inr later ↦ absurd later ]

all_map : (P Q : Kept → Type 0) (rows : List Kept) → ((r : Kept) → P r → Q r) → AllByRecursion P rows
    → AllByRecursion Q rows
all_map P Q [] f all = tt
all_map P Q (r ∷ rows) f all = (f r all.0, all_map P Q rows f all.1)

pub plain_ends : (from to : ℕ) (bottom : Bottom) (writes : List Row) (rows : List Kept) → bottom.cuts ≡ []
    → IsFlatOf from to bottom writes rows → AllByRecursion (λ r. r.end ≡ to) rows
plain_ends from to bottom writes rows uncut flat =
    all_map (λ r. In r.end (ends_of bottom.cuts to)) (λ r. r.end ≡ to) rows (λ r there. end_is_to to r.end (subst (λ (cuts : List ℕ). In r.end (ends_of cuts to)) uncut there)) (flat_ends from to bottom writes rows flat)

end_within : (last : Bool) (to upto : ℕ) (newest : Option Row) → to ≤ upto
    → find (within upto) (option_to_list (option_map (ending to) (what_stays last newest))) ≡ option_map (ending to) (what_stays last newest)
end_within last to upto newest le = at (what_stays last newest)
  where
    at : (left : Option Row)
        → find (within upto) (option_to_list (option_map (ending to) left)) ≡ option_map (ending to) left
    at None = refl
    at (Some row) = ap (λ (b : Bool). cond b (Some (ending to row)) None) (le-leb to upto le)

-- the first row of a key is that one
pub plain_first : (from to : ℕ) (bottom : Bottom) (writes : List Row) (rows : List Kept) → bottom.cuts ≡ []
    → from + length writes ≤ to → IsFlatOf from to bottom writes rows → (upto : ℕ) → to ≤ upto → (key : List ℕ)
    → first_upto key_of_kept end_of_kept key upto rows ≡ option_map (ending to) (what_stays bottom.last (newest_row key writes))
plain_first from to bottom writes rows uncut fit flat upto le key =
    upto_of_key key upto rows ∙ ap (find (within upto)) (plain_rows from to bottom writes rows uncut fit flat key) ∙ end_within bottom.last to upto (newest_row key writes) le
